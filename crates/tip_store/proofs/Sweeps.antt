-- Pulling and fitting by what they do to status bytes, also where the buffers do not fit or the device is above p.
use Rattle.std.proofs.Common.{◌≡◌, ℕ, ◌*◌, ◌<◌, ◌-◌, ◌≤◌, Bool, true, false, List, length, ◌&&◌, inl, inr, nat_le, refl, sym, subst, ap, arith}
use Rattle.std.proofs.lemmas.Bool.Decides.{nat_tests}
use Rattle.std.proofs.lemmas.Bool.{cases_order}
use Rattle.tip_shelf.specs.Service.{Pulled, Fitted}
use Rattle.tip_store.specs.Layout.{strips_in, status_in, Swept}
use Rattle.tip_store.specs.Store.{Store, shelf_of}
use Rattle.tip_store.specs.declared.status.Event.{Event}
use Rattle.tip_store.specs.declared.status.Event.TheVariants.{Pull, Fit}
use Rattle.tip_store.proofs.Servicing.{Befallen, store_pulled, store_fitted, swept_befalls, unpulled, unfitted}

module _ {E : Type 0} (p n w d : ℕ) (f h : ℕ → ℕ → E) (xs ys : List ℕ) where
  -- the store before, and after
  abbrev before : Store E
  before = record { status = status_in w xs; cell = f }

  abbrev later : Store E
  later = record { status = status_in w ys; cell = h }

  -- nothing has changed
  pub record Left : Type 0 where
    pub bytes : ys ≡ xs
    pub store : later ≡ before

  -- a device was served: where the buffers fit and it has strips, by a sweep that writes no cell, and else nothing has changed
  pub record Served (fits : Bool) (e : Event) : Type 0 where
    pub low : 1 ≤ w
    pub size : fits ≡ true → length xs ≡ strips_in p n * w
    pub swept : fits ≡ true → d ≤ p → Swept p n w d e xs ys
    pub cells : Swept p n w d e xs ys → (k r : ℕ) → k < strips_in p n → r < p - 1 → h k r ≡ f k r
    pub unfit : fits ≡ false → Left
    pub beyond : p < d → Left

  -- the device has strips, or nothing has changed
  data Ways (fits : Bool) (e : Event) : Type 0 where
    swept : fits ≡ true → d ≤ p → Swept p n w d e xs ys → Befallen p n d e before later → Ways fits e
    left : (fits ≡ true → d ≤ p → ⊥) → Left → Ways fits e

  ways : (fits : Bool) (e : Event) → Served fits e → Ways fits e
  ways false e s = left (λ no. absurd (grind arith)) (s.unfit refl)
  ways true e s = elim (cases_order d p) [ inl o ↦ runs (omega (arith, o)) | inr (inl o) ↦ runs (omega (arith, o)) | inr (inr o) ↦ left (λ _ l. absurd (omega (arith, o, l))) (s.beyond o) ]
    where
      runs : d ≤ p → Ways true e
      runs l = let done = s.swept refl l in swept refl l done (swept_befalls p n w d e f h xs ys s.low l (s.size refl) done (s.cells done))

  pub served_length : (fits : Bool) (e : Event) → Served fits e → length ys ≡ length xs
  served_length fits e s = elim (ways fits e s) [ swept _ _ done _ ↦ done.size | left _ same ↦ ap length same.bytes ]

  pub served_pulls : (fits : Bool) → Served fits Pull → Pulled (shelf_of p n fits before) (shelf_of p n fits later) d
  served_pulls fits s = elim (ways fits Pull s) [ swept fit l _ done ↦ rw fit (store_pulled p n d before later l done) | left none same ↦ subst (λ t. Pulled (shelf_of p n fits before) (shelf_of p n fits t) d) (sym same.store) (unpulled p n d fits before none) ]

  pub served_fits : (fits : Bool) → Served fits Fit → Fitted (shelf_of p n fits before) (shelf_of p n fits later) d (fits && nat_le d p)
  served_fits fits s = elim (ways fits Fit s) [ swept fit l _ done ↦ rw (fit, yes l) (store_fitted p n d before later l done) | left none same ↦ rw (no none) (subst (λ t. Fitted (shelf_of p n fits before) (shelf_of p n fits t) d false) (sym same.store) (unfitted p n d fits before none)) ]
    where
      yes : d ≤ p → nat_le d p ≡ true
      yes l = grind (arith, nat_tests, l)

      no : (fits ≡ true → d ≤ p → ⊥) → (fits && nat_le d p) ≡ false
      no none = grind (arith, nat_tests, none)

-- What pulling and fitting are over a store.
use Rattle.std.proofs.Common.{◌≡◌, ◌≢◌, ℕ, ◌+◌, ◌-◌, ◌*◌, ◌<◌, ◌≤◌, Bool, true, false, List, length, refl, sym, subst, arith}
use Rattle.std.proofs.lemmas.Bool.Decides.{nat_tests}
use Rattle.tip_shelf.specs.Meaning.{absent}
use Rattle.tip_shelf.specs.Calls.{stays}
use Rattle.tip_shelf.specs.Service.{Pulled, Fitted, Renews}
use Rattle.tip_shelf.specs.declared.shelf.State.{State}
use Rattle.tip_shelf.specs.declared.shelf.State.TheVariants.{Held, Blank, Absent}
use Rattle.tip_shelf.proofs.Strips.{same_refl}
use Rattle.tip_store.specs.Layout.{strips_in, strip_number, status_in, Swept}
use Rattle.tip_store.specs.Store.{Store, strip_in, elements, shelf_of}
use Rattle.tip_store.specs.Status.{state_for, status_of, after, moved}
use Rattle.tip_store.specs.declared.status.Event.{Event}
use Rattle.tip_store.specs.declared.status.Event.TheVariants.{Pull, Fit}
use Rattle.tip_store.proofs.Numbers.{number_below, number_one, part_within, part_one}
use Rattle.tip_store.proofs.Storing.{store_kept, strip_there, elements_alike, strip_alike}

-- a state is read back from its status byte
state_back : (q : State) → state_for (status_of q) ≡ q
state_back Held = refl
state_back Blank = refl
state_back Absent = refl

-- what a strip is after its device was fitted
renews : {E : Type 0} (q : State) (es : List E) → Renews true (strip_in q es) (strip_in (after q Fit) es)
renews Held es = stays refl
renews Blank es = stays refl
renews Absent es = refl

-- An event has befallen the strips of column d, and nothing else has changed.
pub record Befallen {E : Type 0} (p n d : ℕ) (e : Event) (s t : Store E) : Type 0 where
  pub there : (i : ℕ) → i < n → t.status (strip_number p i d) ≡ moved e (s.status (strip_number p i d))
  pub elsewhere : (k : ℕ) → k < strips_in p n → ((i : ℕ) → i < n → k ≡ strip_number p i d → ⊥) → t.status k ≡ s.status k
  pub cells : (k r : ℕ) → k < strips_in p n → r < p - 1 → t.cell k r ≡ s.cell k r

module _ {E : Type 0} (p n d : ℕ) (s t : Store E) where
  -- what a strip of column d is afterwards
  becomes : (e : Event) → Befallen p n d e s t → (i : ℕ) → i < n → d ≤ p → (shelf_of p n true t).strip i d ≡ strip_in (after (state_for (s.status (strip_number p i d))) e) (elements p s (strip_number p i d))
  becomes e h i l k = rw (strip_there p n true t i d refl l k, h.there i l, state_back (after (state_for (s.status (strip_number p i d))) e), elements_alike p n true s t (strip_number p i d) (λ r m. h.cells (strip_number p i d) r (number_below p n i d l k) m)) refl

  -- the strips of other columns stay
  elsewhere : (e : Event) → Befallen p n d e s t → d ≤ p → (i c : ℕ) → c ≢ d → (shelf_of p n true t).strip i c ≡ (shelf_of p n true s).strip i c
  elsewhere e h k i c apart = strip_alike p n true s t i c (λ l m. record {
    status = h.elsewhere (strip_number p i c) (number_below p n i c l m) (λ j u same. let one = number_one p i c j d m k same in apart one.1);
    cell = λ r v. h.cells (strip_number p i c) r (number_below p n i c l m) v;
  })

  -- it is absent after a pull, also beyond the last stripe
  pulled : Befallen p n d Pull s t → (i : ℕ) → d ≤ p → (shelf_of p n true t).strip i d ≡ absent
  pulled h i k = let within : i < n → (shelf_of p n true t).strip i d ≡ absent = λ l. becomes Pull h i l k in grind (arith, nat_tests, within)

  pub store_pulled : d ≤ p → Befallen p n d Pull s t → Pulled (shelf_of p n true s) (shelf_of p n true t) d
  store_pulled k h = record {
    kept = store_kept p n true s t;
    gone = λ _ i c same. subst (λ x. (shelf_of p n true t).strip i x ≡ absent) (sym same) (pulled h i k);
    others = λ i c apart. stays (elsewhere Pull h k i c apart);
    beyond = λ less. absurd (omega arith);
  }

  pub store_fitted : d ≤ p → Befallen p n d Fit s t → Fitted (shelf_of p n true s) (shelf_of p n true t) d true
  store_fitted k h = record {
    kept = store_kept p n true s t;
    fits = λ _ i c within same. subst (λ x. Renews true ((shelf_of p n true s).strip i x) ((shelf_of p n true t).strip i x)) (sym same) (rw (becomes Fit h i within.stripe k, strip_there p n true s i d refl within.stripe k) (renews _ _));
    refuses = λ e. absurd (grind arith);
    others = λ i c apart. stays (elsewhere Fit h k i c apart);
    beyond = λ less. absurd (omega arith);
  }

-- a device above p has no strips, and a store whose buffers do not fit has none either
module _ {E : Type 0} (p n d : ℕ) (b : Bool) (s : Store E) (none : b ≡ true → d ≤ p → ⊥) where
  pub unpulled : Pulled (shelf_of p n b s) (shelf_of p n b s) d
  unpulled = record {
    kept = (same_refl (shelf_of p n b s)).kept;
    gone = λ k i c same. grind (arith, nat_tests, none);
    others = λ i c apart. stays refl;
    beyond = λ less. same_refl (shelf_of p n b s);
  }

  pub unfitted : Fitted (shelf_of p n b s) (shelf_of p n b s) d false
  unfitted = record {
    kept = (same_refl (shelf_of p n b s)).kept;
    fits = λ e. absurd (grind arith);
    refuses = λ e i c. stays refl;
    others = λ i c apart. stays refl;
    beyond = λ less. (refl, same_refl (shelf_of p n b s));
  }

-- a sweep over the status bytes xs, which stand w apart, is such an event; f and g are the cells before and after it
module _ {E : Type 0} (p n w d : ℕ) (e : Event) (f g : ℕ → ℕ → E) (xs ys : List ℕ) where
  abbrev before : Store E
  before = record { status = status_in w xs; cell = f }

  abbrev later : Store E
  later = record { status = status_in w ys; cell = g }

  pub swept_befalls : 1 ≤ w → d ≤ p → length xs ≡ strips_in p n * w → Swept p n w d e xs ys → ((k r : ℕ) → k < strips_in p n → r < p - 1 → g k r ≡ f k r) → Befallen p n d e before later
  swept_befalls low h size swept cells = record {
    there = λ i l. swept.there i l (let in_part : strip_number p i d * w + w ≤ strips_in p n * w = part_within (strip_number p i d) w (strips_in p n) (number_below p n i d l h) in omega arith);
    elsewhere = λ k l apart. swept.elsewhere (k * w) (λ i m same. apart i m (part_one k (strip_number p i d) w low same));
    cells = cells;
  }

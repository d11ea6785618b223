-- What an event at one strip leaves of the bytes of a store, and what an erase and a restore are over it.
use Rattle.std.proofs.Common.{◌≡◌, ◌≢◌, ℕ, ◌+◌, ◌-◌, ◌*◌, ◌<◌, ◌≤◌, Bool, true, List, length, Ok, slice_index_or, slice_set, refl, sym, ap, subst, ◌∙◌, arith}
use Rattle.std.proofs.lemmas.Grind.{get_or-set_at}
use Rattle.std.proofs.lemmas.List.{get_or-set_other}
use Rattle.std.proofs.lemmas.Nat.{same_from_place}
use Rattle.tip_shelf.specs.Calls.{Erased, Restored}
use Rattle.tip_shelf.specs.declared.shelf.State.{State}
use Rattle.tip_shelf.specs.declared.shelf.State.TheVariants.{Held, Blank, Absent}
use Rattle.tip_store.specs.Layout.{strips_in, strip_number, status_in, Spotted}
use Rattle.tip_store.specs.Status.{state_for, status_of, after, moved}
use Rattle.tip_store.specs.Store.{Store, shelf_of}
use Rattle.tip_store.specs.declared.layout.Spot.{Spot}
use Rattle.tip_store.specs.declared.status.Event.{Event}
use Rattle.tip_store.specs.declared.status.Event.TheVariants.{Erase, Restore}
use Rattle.tip_store.proofs.Storing.{store_erased, store_restored}

-- a strip that is not absent is blank after an erase
blanked : (q : State) → (q ≡ Absent → ⊥) → status_of (after q Erase) ≡ 1
blanked Held ne = refl
blanked Blank ne = refl
blanked Absent ne = absurd (ne refl)

-- the strip at stripe i and column c, whose status byte stands at a spot of the bytes xs
module _ (p n w i c : ℕ) (xs : List ℕ) (spot : Spot) (at : Spotted p n w i c spot) where
  abbrev k : ℕ
  k = strip_number p i c

  pub place : spot.status ≡ k * w
  place = at.status ∙ ap (λ x. x * w) at.number

  -- the byte that an event makes of its status byte, and the bytes with that
  abbrev pub new_status : Event → ℕ
  new_status e = moved e (slice_index_or xs spot.status 0)

  abbrev pub marked : Event → List ℕ
  marked e = slice_set xs spot.status (new_status e)

  state_here : state_for (status_in w xs k) ≡ state_for (slice_index_or xs spot.status 0)
  state_here = ap (λ m. state_for (slice_index_or xs m 0)) (sym place)

  marked_here : (e : Event) → 1 ≤ w → length xs ≡ strips_in p n * w → status_in w (marked e) k ≡ new_status e
  marked_here e low size = get_or-set_at xs spot.status (k * w) (new_status e) 0 (sym place) (let within = at.within in omega (arith, within, size, low))

  -- every other byte stays: byte o of strip m
  pub unmarked : (e : Event) (m o : ℕ) → o < w → (m ≡ k → 1 ≤ o) → slice_index_or (marked e) (m * w + o) 0 ≡ slice_index_or xs (m * w + o) 0
  unmarked e m o h apart = get_or-set_other xs spot.status (m * w + o) (new_status e) 0 (λ same. let one = same_from_place m o k 0 w h (omega arith) (omega (arith, same, place)) in let high = apart one.0 in omega (arith, high, one.1))

  unmarked_status : (e : Event) (m : ℕ) → 1 ≤ w → m ≢ k → status_in w (marked e) m ≡ status_in w xs m
  unmarked_status e m low apart = subst (λ x. slice_index_or (marked e) x 0 ≡ slice_index_or xs x 0) (omega arith) (unmarked e m 0 low (λ same. absurd (apart same)))

  -- the cells f become h, and those of the other strips stay
  module _ {E : Type 0} (b : Bool) (f h : ℕ → ℕ → E) (fits : b ≡ true) (low : 1 ≤ w) (size : length xs ≡ strips_in p n * w) (others : (m r : ℕ) → m ≢ k → r < p - 1 → h m r ≡ f m r) where
    abbrev before : Store E
    before = record { status = status_in w xs; cell = f }

    abbrev later : List ℕ → Store E
    later ys = record { status = status_in w ys; cell = h }

    pub event_erased : {A : Type 0} (a : A) → (state_for (slice_index_or xs spot.status 0) ≡ Absent → ⊥) → Erased (shelf_of p n b before) (shelf_of p n b (later (marked Erase))) i c (Ok a)
    event_erased a is = store_erased p n b i c k fits at.has.0 at.has.1 refl before (later (marked Erase)) a (λ gone. is (sym state_here ∙ gone))
        (marked_here Erase low size ∙ blanked (state_for (slice_index_or xs spot.status 0)) is)
        (λ m less apart. record { status = unmarked_status Erase m low apart; cell = λ r l. others m r apart l })

    pub event_restored : {A : Type 0} (a : A) (ys : List ℕ) (es : List E) (none : E) → length es ≡ p - 1 → state_for (slice_index_or xs spot.status 0) ≡ Blank → ((m : ℕ) → status_in w ys m ≡ status_in w (marked Restore) m) → ((r : ℕ) → r < p - 1 → h k r ≡ slice_index_or es r none) → Restored (shelf_of p n b before) (shelf_of p n b (later ys)) i c es (Ok a)
    event_restored a ys es none len is same loaded = store_restored p n b i c k fits at.has.0 at.has.1 refl before (later ys) a es none len (state_here ∙ is)
        (same k ∙ marked_here Restore low size ∙ ap (λ q. status_of (after q Restore)) is)
        loaded
        (λ m less apart. record { status = same m ∙ unmarked_status Restore m low apart; cell = λ r l. others m r apart l })

-- What the calls of a shelf are over a store, from what they do to its status bytes and cells.
use Rattle.std.proofs.Common.{◌≡◌, ◌≢◌, ℕ, ◌-◌, ◌<◌, ◌≤◌, Bool, true, List, length, Option, Some, None, Ok, Err, slice_index_or, slice_set, refl, sym, ap, ◌∙◌, arith}
use Rattle.std.proofs.lemmas.Bool.Decides.{nat_tests}
use Rattle.std.proofs.lemmas.Grind.{common_steps}
use Rattle.std.proofs.lemmas.List.FromFn.{length-map-range_with_len, get_or-map-range_with_len, fill_by_all}
use Rattle.std.proofs.lemmas.Option.{slice_get-get_or}
use Rattle.tip_shelf.specs.Meaning.{Strip, held, blank, absent, Within}
use Rattle.tip_shelf.specs.Calls.{Kept, Acted, Got, Put, Erased, Restored, got, put, erased, restored}
use Rattle.tip_shelf.proofs.Strips.{same_refl, acted_done, acted_out}
use Rattle.tip_shelf.specs.declared.shelf.Out.{Out}
use Rattle.tip_shelf.specs.declared.shelf.State.{State}
use Rattle.tip_shelf.specs.declared.shelf.State.TheVariants.{Held, Blank, Absent}
use Rattle.tip_store.specs.Layout.{strips_in, strip_number}
use Rattle.tip_store.specs.Store.{Store, strip_in, elements, shown, shelf_of}
use Rattle.tip_store.specs.Status.{state_for}
use Rattle.tip_store.proofs.Numbers.{number_below, number_one}

-- a strip that there is
pub strip_there : {E : Type 0} (p n : ℕ) (b : Bool) (s : Store E) (i c : ℕ) → b ≡ true → i < n → c ≤ p → (shelf_of p n b s).strip i c ≡ shown p s (strip_number p i c)
strip_there p n b s i c fits h k = grind (arith, nat_tests, fits, h, k)

-- no change of a store changes its sizes or devices
pub store_kept : {E : Type 0} (p n : ℕ) (b : Bool) (s t : Store E) → Kept (shelf_of p n b s) (shelf_of p n b t)
store_kept p n b s t = record { prime = refl; stripes = refl; device = λ i c. refl; steady = refl }

-- what a strip shows by its state
module _ {E : Type 0} (p : ℕ) (s : Store E) (k : ℕ) where
  pub shown_held : state_for (s.status k) ≡ Held → shown p s k ≡ held (elements p s k)
  shown_held e = rw e refl

  pub shown_blank : state_for (s.status k) ≡ Blank → shown p s k ≡ blank
  shown_blank e = rw e refl

  pub shown_absent : state_for (s.status k) ≡ Absent → shown p s k ≡ absent
  shown_absent e = rw e refl

  pub element_at : (r : ℕ) (d : E) → r < p - 1 → slice_index_or (elements p s k) r d ≡ s.cell k r
  element_at r d h = get_or-map-range_with_len (s.cell k) 0 (p - 1) r r d h (omega arith)

  pub elements_length : length (elements p s k) ≡ p - 1
  elements_length = length-map-range_with_len (s.cell k) 0 (p - 1)

  -- the elements of a strip are those of a list that has each of them at its row
  pub elements_are : (es : List E) (d : E) → length es ≡ p - 1 → ((r : ℕ) → r < p - 1 → slice_index_or es r d ≡ s.cell k r) → elements p s k ≡ es
  elements_are es d len same = sym (fill_by_all (s.cell k) es (p - 1) d len same)

module _ {E : Type 0} (p n : ℕ) (b : Bool) (s t : Store E) where
  -- strips k of two stores that show the same
  pub record Alike (k : ℕ) : Type 0 where
    pub status : t.status k ≡ s.status k
    pub cell : (r : ℕ) → r < p - 1 → t.cell k r ≡ s.cell k r

  pub elements_alike : (k : ℕ) → ((r : ℕ) → r < p - 1 → t.cell k r ≡ s.cell k r) → elements p t k ≡ elements p s k
  elements_alike k same = elements_are p t k (elements p s k) (s.cell k 0) (elements_length p s k) (λ r h. element_at p s k r (s.cell k 0) h ∙ sym (same r h))

  pub shown_alike : (k : ℕ) → Alike k → shown p t k ≡ shown p s k
  shown_alike k h = rw (h.status, elements_alike k h.cell) refl

  -- the strip at (j, d) stays if its number's does
  pub strip_alike : (j d : ℕ) → (j < n → d ≤ p → Alike (strip_number p j d)) → (shelf_of p n b t).strip j d ≡ (shelf_of p n b s).strip j d
  strip_alike j d same = grind (arith, nat_tests, shown_alike, same)

-- a call for strip k, which is at stripe i and column c
module _ {E : Type 0} (p n : ℕ) (b : Bool) (i c k : ℕ) (fits : b ≡ true) (h : i < n) (l : c ≤ p) (number : k ≡ strip_number p i c) where
  -- the other strips stay
  abbrev pub Elsewhere : Store E → Store E → Type 0
  Elsewhere s t = (m : ℕ) → m < strips_in p n → m ≢ k → Alike p n b s t m

  there : (s : Store E) → Within (shelf_of p n b s) i c
  there s = record { stripe = h; column = l }

  shows : (s : Store E) → (shelf_of p n b s).strip i c ≡ shown p s k
  shows s = rw number (strip_there p n b s i c fits h l)

  -- where the call is done, and changes its own strip alone
  pub store_done : {A Range : Type 0} (s t : Store E) (a : A) (to : Strip E → Option (Strip E)) → Range → to (shown p s k) ≡ Some (shown p t k) → Elsewhere s t → Acted (shelf_of p n b s) (shelf_of p n b t) Range i c to (Ok a)
  store_done s t a to range done others = acted_done a (store_kept p n b s t) range (rw (shows s, shows t) done) (λ j d apart. strip_alike p n b s t j d (λ u v. others (strip_number p j d) (number_below p n j d u v) (λ e. let one = number_one p j d i c v l (e ∙ number) in apart one.0 one.1)))

  pub store_got : (s : Store E) (r : ℕ) → r < p - 1 → state_for (s.status k) ≡ Held → Got (shelf_of p n b s) (shelf_of p n b s) i c r (Ok (s.cell k r))
  store_got s r row e = record {
    act = store_done s s (s.cell k r) got (record { within = there s; row = row }) (rw e refl) (λ m _ _. record { status = refl; cell = λ q _. refl });
    reads = rw (shows s, e) (slice_get-get_or (elements p s k) r (s.cell k r) (omega (arith, row, elements_length p s k)) ∙ ap Some (element_at p s k r (s.cell k r) row));
  }

  pub store_put : {A : Type 0} (s t : Store E) (a : A) (r : ℕ) (e : E) → r < p - 1 → state_for (s.status k) ≡ Held → t.status k ≡ s.status k → t.cell k r ≡ e → ((q : ℕ) → q < p - 1 → q ≢ r → t.cell k q ≡ s.cell k q) → Elsewhere s t → Put (shelf_of p n b s) (shelf_of p n b t) i c r e (Ok a)
  store_put s t a r e row is status this rest others = store_done s t a (put r e) (record { within = there s; row = row }) (rw (status, is, elements_are p t k (slice_set (elements p s k) r e) e (grind (arith, common_steps, elements_length p s k)) each) refl) others
    where
      each : (q : ℕ) → q < p - 1 → slice_index_or (slice_set (elements p s k) r e) q e ≡ t.cell k q
      each q m = grind (arith, common_steps, elements_length p s k, element_at p s k q e m, this, rest q m)

  pub store_erased : {A : Type 0} (s t : Store E) (a : A) → (state_for (s.status k) ≡ Absent → ⊥) → t.status k ≡ 1 → Elsewhere s t → Erased (shelf_of p n b s) (shelf_of p n b t) i c (Ok a)
  store_erased s t a is status others = store_done s t a erased (there s) (rw status (wiped (state_for (s.status k)) is)) others
    where
      wiped : (q : State) → (q ≡ Absent → ⊥) → erased (strip_in q (elements p s k)) ≡ Some blank
      wiped Held ne = refl
      wiped Blank ne = refl
      wiped Absent ne = absurd (ne refl)

  pub store_restored : {A : Type 0} (s t : Store E) (a : A) (es : List E) (d : E) → length es ≡ p - 1 → state_for (s.status k) ≡ Blank → t.status k ≡ 2 → ((r : ℕ) → r < p - 1 → t.cell k r ≡ slice_index_or es r d) → Elsewhere s t → Restored (shelf_of p n b s) (shelf_of p n b t) i c es (Ok a)
  store_restored s t a es d len is status cells others = store_done s t a (restored es) (record { within = there s; sized = len }) (rw (is, status, elements_are p t k es d len (λ r m. sym (cells r m))) refl) others

-- a call that says out over a store, and changes nothing
module _ {E : Type 0} (p n : ℕ) (b : Bool) (i c : ℕ) (s : Store E) where
  pub store_out : {A Range : Type 0} (to : Strip E → Option (Strip E)) (o : Out) → to absent ≡ None → (Range → b ≡ true → i < n → c ≤ p → to (shown p s (strip_number p i c)) ≡ None) → Acted {A = A} (shelf_of p n b s) (shelf_of p n b s) Range i c to (Err o)
  store_out to o lost none = acted_out o (same_refl (shelf_of p n b s)) (λ range. grind (arith, nat_tests, lost, none range))

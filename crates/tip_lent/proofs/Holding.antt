-- What the bytes of an image are where a word was exchanged in it.
use Rattle.std.proofs.Common.{◌≡◌, ℕ, ◌+◌, ◌-◌, ◌<◌, ◌≤◌, ◌⊎◌, inl, inr, Bool, true, false, List, length, Result, Ok, Err, IfOk, slice_index_or, slice_set, refl, sym, ap, subst, ◌∙◌, arith}
use Rattle.std.proofs.lemmas.Bool.{cases_lt}
use Rattle.std.proofs.lemmas.Bool.Decides.{nat_tests}
use Rattle.std.proofs.lemmas.List.{get_or-set_same}
use Rattle.std.proofs.lemmas.List.FromFn.{get_or-map-range_with_len}
use Rattle.std.proofs.lemmas.Nat.{be_bytes_8}
use Rattle.std.proofs.Math.ListN.{get_or-eq_default}
use Rattle.tip_code.specs.Geometry.{prime_of, stripes_of}
use Rattle.tip_code.specs.declared.geometry.Geometry.{Geometry}
use Rattle.tip_element.specs.declared.word.Word.{Word}
use Rattle.tip_image.specs.Image.{width, fitting, image, store_of, eight, word_from, word_at}
use Rattle.tip_shelf.specs.Meaning.{Strip, held, blank, absent, Meaning}
use Rattle.tip_shelf.specs.Calls.{Turns, InRange, put}
use Rattle.tip_shelf.specs.declared.shelf.State.{State}
use Rattle.tip_shelf.specs.declared.shelf.State.TheVariants.{Held, Blank, Absent}
use Rattle.tip_store.specs.Layout.{strip_number, status_in}
use Rattle.tip_store.specs.Status.{state_for}
use Rattle.tip_store.specs.Store.{Store, strip_in, elements, shown, shelf_of}
use Rattle.tip_store.proofs.Storing.{element_at, elements_length, strip_there}
use Rattle.tip_rotated.specs.Laws.{turned_in}
use Rattle.tip_rotated.specs.Turning.{rotated, turned}
use Rattle.tip_shelf.specs.declared.shelf.Out.{Out}
use Rattle.tip_lent.specs.Exchanges.{Exchanged, Holds}

-- a strip that is shown as held is in that state
held_state : (q : State) (es fs : List Word) → strip_in q es ≡ held fs → (q ≡ Held) × (es ≡ fs)
held_state Held es fs e = (refl, cc)
held_state Blank es fs e = absurd (grind arith)
held_state Absent es fs e = absurd (grind arith)

-- only a held strip takes an element
taken : (s : Bool) (a b : Strip Word) (r : ℕ) (e : Word) (old : Word) → Turns s a b (put r e a) (Ok old) → (es : List Word) × (a ≡ held es) × (b ≡ held (slice_set es r e))
taken s (held es) b r e old h = (es, refl, h)
taken s blank b r e old h = absurd h
taken s absent b r e old h = absurd h

-- eight bytes are below 256
eight_small : (ys : List ℕ) (a : ℕ) → ((k : ℕ) → slice_index_or ys k 0 < 256) → (j : ℕ) → slice_index_or (eight ys a) j 0 < 256
eight_small ys a small j = by (cases_lt j 8)
  where
    by : (j < 8) ⊎ (8 ≤ j) → slice_index_or (eight ys a) j 0 < 256
    by (inl l) = rw (get_or-map-range_with_len (λ i. slice_index_or ys (a + i) 0) 0 8 j j 0 l (omega arith)) (small (a + j))
    by (inr l) = rw (get_or-eq_default (eight ys a) 0 {n = j} l) (omega arith)

-- a call that was done was in range
in_range : (v w : Meaning Word) (i c r : ℕ) (e old : Word) → Exchanged v w i c r e (Ok old) → InRange v i c r
in_range v w i c r e old exchanged = by (cases_lt i v.stripes) (cases_lt v.prime c) (cases_lt r (v.prime - 1))
  where
    out : (InRange v i c r → ⊥) → InRange v i c r
    out far = let refused = (exchanged.act.beyond far).0 in absurd (grind arith)

    by : (i < v.stripes) ⊎ (v.stripes ≤ i) → (v.prime < c) ⊎ (c ≤ v.prime) → (r < v.prime - 1) ⊎ (v.prime - 1 ≤ r) → InRange v i c r
    by (inl l) (inr m) (inl q) = record { within = record { stripe = l; column = m }; row = q }
    by (inr l) m q = out (λ h. let stripe = h.within.stripe in omega (arith, l, stripe))
    by (inl l) (inl m) q = out (λ h. let column = h.within.column in omega (arith, m, column))
    by (inl l) (inr m) (inr q) = out (λ h. let row = h.row in omega (arith, q, row))

module _ (g : Geometry) (xs ys : List ℕ) (small : (k : ℕ) → slice_index_or ys k 0 < 256) (i c r : ℕ) (e old : Word) where
  abbrev p : ℕ
  p = prime_of g

  module _ (range : InRange (image g xs) i c r) (done : Turns true ((image g xs).strip i c) ((image g ys).strip i c) (put r e ((image g xs).strip i c)) (Ok old)) where
    abbrev k : ℕ
    k = strip_number p i c

    -- a strip of an image that is held is one that its bytes show
    shows : (b : Bool) (s : Store Word) (fs : List Word) → (shelf_of p (stripes_of g) b s).strip i c ≡ held fs → shown p s k ≡ held fs
    shows true s fs h = sym (strip_there p (stripes_of g) true s i c refl range.within.stripe range.within.column) ∙ h
    shows false s fs h = absurd (grind arith)

    holds : Holds p ys i c r e
    holds =
        let new = taken true ((image g xs).strip i c) ((image g ys).strip i c) r e old done in
        let before = held_state (state_for (status_in (width p) xs k)) (elements p (store_of p xs) k) new.0 (shows (fitting p (stripes_of g) (length xs)) (store_of p xs) new.0 new.1) in
        let later = held_state (state_for (status_in (width p) ys k)) (elements p (store_of p ys) k) (slice_set new.0 r e) (shows (fitting p (stripes_of g) (length ys)) (store_of p ys) (slice_set new.0 r e) new.2) in
        let room : r < length new.0 = omega (arith, range.row, ap length before.1, elements_length p (store_of p xs) k) in
        let is : word_from ys (word_at p k r) ≡ e = sym (element_at p (store_of p ys) k r old range.row) ∙ ap (λ es. slice_index_or es r old) later.1 ∙ get_or-set_same new.0 r e old room in
        record {
          status = let state = later.0 in grind (arith, nat_tests, state);
          word = sym (be_bytes_8 (eight ys (word_at p k r)) e.0 refl (eight_small ys (word_at p k r) small) (sym (ap (λ x. x.0) is)));
        }

-- the strip below that a strip of a rotated shelf is
turned_strip : (v : Meaning Word) (i c : ℕ) → c ≤ v.prime → (rotated v).strip i c ≡ v.strip i (turned v.prime i c)
turned_strip v i c h = grind (arith, nat_tests, h)

-- what an exchange leaves in the bytes of an image, and in one whose columns are turned
module _ (g : Geometry) (xs ys : List ℕ) (small : (k : ℕ) → slice_index_or ys k 0 < 256) (i c r : ℕ) (e : Word) where
  pub image_holds : (o : Result Word Out) → Exchanged (image g xs) (image g ys) i c r e o → IfOk o (λ _. Holds (prime_of g) ys i c r e)
  image_holds (Ok old) h = let range = in_range (image g xs) (image g ys) i c r e old h in holds g xs ys small i c r e old range (h.act.here range)
  image_holds (Err out) h = tt

  pub turned_holds : (o : Result Word Out) → Exchanged (rotated (image g xs)) (rotated (image g ys)) i c r e o → IfOk o (λ _. Holds (prime_of g) ys i (turned (prime_of g) i c) r e)
  turned_holds (Ok old) h =
      let range = in_range (rotated (image g xs)) (rotated (image g ys)) i c r e old h in
      let column = range.within.column in
      holds g xs ys small i (turned (prime_of g) i c) r e old (record { within = record { stripe = range.within.stripe; column = turned_in (prime_of g) i c }; row = range.row }) (subst (λ a. Turns true a ((image g ys).strip i (turned (prime_of g) i c)) (put r e a) (Ok old)) (turned_strip (image g xs) i c column)
      (subst (λ b. Turns true ((rotated (image g xs)).strip i c) b (put r e ((rotated (image g xs)).strip i c)) (Ok old)) (turned_strip (image g ys) i c column) (h.act.here range)))
  turned_holds (Err out) h = tt

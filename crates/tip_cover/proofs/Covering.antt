-- The set of places that a parity covers, place by place.
use Rattle.std.proofs.Common.{◌≡◌, ℕ, ◌+◌, ◌-◌, ◌<◌, ◌≤◌, Bool, true, false, Result, Ok, Err, IfOk, MatchResult, sym, ap₂, ◌∙◌, arith}
use Rattle.std.proofs.lemmas.Bool.{lt-ltb}
use borrow.Author.Count.{below_more}
use Rattle.std.proofs.lemmas.Nat.{mul-le}
use Rattle.std.proofs.lemmas.Bool.Decides.{nat_tests}
use Rattle.tip_element.specs.Counts.{count_below}
use Rattle.tip_cover.specs.Cover.{Cover}
use Rattle.tip_code.specs.Geometry.{places_in}
use Rattle.tip_code.specs.Places.{Place, PlaceStop}
use Rattle.tip_code.specs.Primes.{listed}
use Rattle.tip_code.specs.Stops.{Stopped}
use Rattle.tip_code.specs.Stripe.{covers}
use Rattle.tip_code.specs.declared.chain.Cell.{Cell}
use Rattle.tip_code.specs.declared.stop.Stop.{Stop}
use Rattle.tip_element.specs.Traces.{has, one_of, Just}
use Rattle.tip_code.specs.declared.chain.Direction.{Direction}
use Rattle.tip_element.specs.declared.trace.Trace.{Trace}
use Rattle.tip_element.proofs.Bits.{count_same}
use Rattle.tip_element.proofs.Sets.{count_on, count_off}
use Rattle.tip_code.proofs.Numbers.{numbering, place_none}

-- the numbers of places fit a trace
pub places_traced : (p : ℕ) → p ≤ 11 → places_in p ≤ 90
places_traced p h = mul-le (p - 1) (p - 2) 10 9 (omega arith) (omega arith)

-- what stands after the places below m: a cover of these
pub record Covered (p : ℕ) (d : Direction) (i m : ℕ) (t : Trace) (n : ℕ) : Type 0 where
  pub each : (k : ℕ) → k < m → (r c : ℕ) → Place p k r c → has t k ≡ covers p d i r c
  pub others : (k : ℕ) → m ≤ k → has t k ≡ false
  pub count : n ≡ count_below m (has t)
  pub bound : n ≤ m

module _ (p : ℕ) (l : listed p ≡ true) (d : Direction) (i : ℕ) where
  -- what a test gives of the cell that a place was found to be, and false where none was found
  pub looked_covers : (n : ℕ) (o : Result Cell Stop) (b : Bool) (Called : Cell → Type 0) → Stopped (PlaceStop p n) o → IfOk o (λ c. Place p n c.row c.column) → MatchResult o Called (λ _. b ≡ false) → ((c : Cell) → Called c → b ≡ covers p d i c.row c.column) → (r q : ℕ) → Place p n r q → b ≡ covers p d i r q
  looked_covers n (Ok cell) b Called stop at called is r q here =
      let same = (numbering p l).apart n cell.row cell.column r q at here in
      is cell called ∙ ap₂ (covers p d i) same.0 same.1
  looked_covers n (Err s) b Called stop at called is r q here =
      absurd (place_none p n (lt-ltb _ _ ((numbering p l).below n r q here)) s stop.this)

  -- place m is not covered
  pub covered_same : (m n : ℕ) (t : Trace) → ((r c : ℕ) → Place p m r c → false ≡ covers p d i r c) → Covered p d i m t n → Covered p d i (m + 1) t n
  covered_same m n t off before = record {
    each = below_more _ m before.each (λ r c at. before.others m (omega arith) ∙ off r c at);
    others = λ k h. before.others k (omega arith);
    count = omega (arith, count_off m (has t) (before.others m (omega arith)));
    bound = omega arith;
  }

  -- place m is covered
  pub covered_more : (m n : ℕ) (t u v : Trace) → ((r c : ℕ) → Place p m r c → true ≡ covers p d i r c) → Just m u → ((k : ℕ) → has v k ≡ one_of (has t k) (has u k)) → Covered p d i m t n → Covered p d i (m + 1) v (n + 1)
  covered_more m n t u v on just joined before = record {
    each = below_more _ m (λ k low r c at. old k (omega arith) ∙ before.each k low r c at) (λ r c at. new ∙ on r c at);
    others = λ k h. old k (omega arith) ∙ before.others k (omega arith);
    count = omega (arith, count_same m (has t) (has v) (λ k h. sym (old k (omega arith))), count_on m (has v) new);
    bound = omega arith;
  }
    where
      old : (k : ℕ) → (k ≡ m → ⊥) → has v k ≡ has t k
      old k other = grind (arith, nat_tests, joined k, just k)

      new : has v m ≡ true
      new = grind (arith, nat_tests, joined m, before.others m, just m)

  pub covered_all : (t : Trace) (n : ℕ) → Covered p d i (places_in p) t n → Cover p d i t n
  covered_all t n all = record {
    each = λ k r c at. all.each k ((numbering p l).below k r c at) r c at;
    others = all.others;
    count = all.count;
  }

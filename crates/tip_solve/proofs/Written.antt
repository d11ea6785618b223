-- Columns written into a stripe buffer.
use Rattle.std.proofs.Common.{◌≡◌, ℕ, ◌+◌, ◌-◌, ◌*◌, ◌<◌, ◌≤◌, ◌≢◌, Ok, Err, Result, MatchResult, List, length, take, drop, ⊎_elim, arith, rules}
use borrow.Rule.Slice.PartMut.{put_mid}
use Rattle.std.proofs.lemmas.List.{places}
use Rattle.std.proofs.lemmas.Bool.{cases_lt}
use Rattle.tip_code.specs.Stripe.{cell_index, stripe_of}
use Rattle.tip_code.specs.declared.stop.Stop.{Stop}
use Rattle.tip_code.proofs.Cells.{index_apart}
use Rattle.tip_solve.specs.Writing.{Elsewhere}

-- a part of a list is as long as it was cut
pub part_long : {E : Type 0} (n s : ℕ) (xs : List E) → n + s ≤ length xs → length (take n (drop s xs)) ≡ n
part_long n s xs h = search (rules, places)

module _ {E : Type 0} (d : E) (p c s n : ℕ) (xs ys : List E) (at : c * (p - 1) ≤ s) (wide : s + n ≤ c * (p - 1) + (p - 1)) (h : s + n ≤ length xs) (long : length ys ≡ n) where
  -- a cell of another column stands before any part of this one or after it
  pub elsewhere : Elsewhere p c (stripe_of d p xs) (stripe_of d p (put_mid s n xs ys))
  elsewhere r k l _ ne =
      let i = cell_index p r k in
      ⊎_elim (λ (low : i < s). search (rules, places))
      (λ (b : s ≤ i). ⊎_elim
      (λ (in-it : i < s + n). let row = i - c * (p - 1) in absurd (ne (index_apart p r k row c l (omega arith) (omega arith)).1))
      (λ (past : s + n ≤ i). search (rules, places))
      (cases_lt i (s + n)))
      (cases_lt i s)

-- what a call gives that refuses another length alone
pub accepted : (A C : Stop → Type 0) {B : Type 0} (n m : ℕ) (r : Result (Unit {0}) Stop)
    → MatchResult r (λ _. n ≡ m) (λ s. A s × (n ≢ m)) → MatchResult r (λ _. B) (λ s. C s) → n ≡ m → B
accepted A C n m (Ok a) long b e = b
accepted A C n m (Err s) long b e = absurd (long.1 e)

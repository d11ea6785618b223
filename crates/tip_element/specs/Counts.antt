-- Finite joins and counts, over the numbers below n.
use Rattle.std.specs.Prelude.{ℕ, zero, suc, Bool, cond}

-- The join of f 0, f 1, .. f (n - 1).
abbrev pub join_below : {E : Type 0} → E → (E → E → E) → ℕ → (ℕ → E) → E
join_below none join zero f = none
join_below none join (suc n) f = join (join_below none join n f) (f n)

-- How many of the numbers below n pass the test f.
abbrev pub count_below : ℕ → (ℕ → Bool) → ℕ
count_below zero f = zero
count_below (suc n) f = cond (f n) (suc (count_below n f)) (count_below n f)

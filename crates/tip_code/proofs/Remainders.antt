-- Remainders without a division, and a whole turn.
use Rattle.std.proofs.Common.{◌≡◌, ℕ, ◌+◌, ◌-◌, ◌%◌, ◌<◌, ◌≤◌, sym, ap, ◌∙◌, mod-eq_of_lt, arith}
use native.Mathlib.Nat.{mod-add-mod, add-mod_right, mod-eq-sub-mod}

-- a number below 2p, mod p, by one subtraction
pub wrap_low : (p n : ℕ) → n < p → n ≡ n % p
wrap_low p n h = sym (mod-eq_of_lt h)

pub wrap_high : (p n : ℕ) → p ≤ n → n < p + p → n - p ≡ n % p
wrap_high p n h l = let low : n - p < p = omega arith in sym (mod-eq-sub-mod h ∙ mod-eq_of_lt low)

-- a and what is left of p to it come to a whole turn
pub turned : (p i a b : ℕ) → a + b ≡ p → i < p → ((i + a) % p + b) % p ≡ i
turned p i a b e h =
    let whole : i + a + b ≡ i + p = omega arith in
    mod-add-mod (i + a) p b ∙ ap (λ n. n % p) whole ∙ add-mod_right i p ∙ mod-eq_of_lt h

-- Indices mod p, by periodic functions.
use Rattle.std.proofs.Common.{◌≡◌, ℕ, zero, suc, ◌+◌, ◌-◌, ◌*◌, ◌/◌, ◌%◌, ◌<◌, ◌≤◌, List, get_or, sym, ap, ◌∙◌, ⊎_elim, mod-lt, mod-eq_of_lt, suc-mul, div-add-mod', zero-mul, arith}
use native.Mathlib.Nat.{add-mod_right, mod-add-mod}
use Rattle.std.proofs.lemmas.Bool.{cases_lt}
use Rattle.tip_code.proofs.Remainders.{wrap_high}
use Rattle.tip_algebra.specs.Cyclic.{Per, Holds, Twice}

module _ {E : Type 0} (p : ℕ) (X : ℕ → E) (per : Per p X) where
  -- m periods on
  pub per_many : (m a : ℕ) → X (a + m * p) ≡ X a
  per_many zero a = ap X (omega (arith, zero-mul p))
  per_many (suc m) a = ap X (omega (arith, suc-mul m p)) ∙ per (a + m * p) ∙ per_many m a

  -- two places that are apart by whole periods: at numerals m and n the premise is omega's
  pub per_at : (m n a b : ℕ) → a + m * p ≡ b + n * p → X a ≡ X b
  per_at m n a b e = sym (per_many m a) ∙ ap X e ∙ per_many n b

  pub per_mod : (a : ℕ) → X (a % p) ≡ X a
  per_mod a = per_at (a / p) 0 (a % p) a (omega (arith, div-add-mod' a p))

  pub per_mod_add : (a k : ℕ) → X (a % p + k) ≡ X (a + k)
  per_mod_add a k = per_at (a / p) 0 (a % p + k) (a + k) (omega (arith, div-add-mod' a p))

-- the remainder has the period too, so that the same laws serve indices
pub mod_per : (p : ℕ) → Per p (λ a. a % p)
mod_per p i = add-mod_right i p

-- a list that holds one turn, read at an index mod p
module _ {E : Type 0} (none : E) (p : ℕ) (X : ℕ → E) (per : Per p X) (xs : List E) (holds : Holds none p xs X) (some : 0 < p) where
  pub held_mod : (k : ℕ) → get_or xs (k % p) none ≡ X k
  held_mod k = holds (k % p) (mod-lt k some) ∙ per_mod p X per k

  pub held_mod_add : (k j : ℕ) → get_or xs ((k % p + j) % p) none ≡ X (k + j)
  held_mod_add k j = rw mod-add-mod (held_mod (k + j))

-- a list that holds a turn twice, read on from any index
pub twice_at : {E : Type 0} (none : E) (p : ℕ) (xs : List E) → Twice none p xs → (k : ℕ) → k < p + p
    → get_or xs k none ≡ get_or xs (k % p) none
twice_at none p xs twice k low =
    ⊎_elim
    (λ (h : k < p). ap (λ n. get_or xs n none) (sym (mod-eq_of_lt h)))
    (λ (h : p ≤ k).
    ap (λ n. get_or xs n none) (omega arith) ∙ twice (k - p) (omega arith) ∙ ap (λ n. get_or xs n none)
    (wrap_high p k h low))
    (cases_lt k p)

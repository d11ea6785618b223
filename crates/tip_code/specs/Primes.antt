-- The ten primes that a stripe may be made for.
use Rattle.std.specs.Prelude.{◌≡◌, ℕ, ◌*◌, ◌%◌, ◌<◌, ◌≤◌, Bool, false, ◌||◌, List, [], ◌∷◌, ◌==◌}

abbrev pub primes : List ℕ
primes = 3 ∷ 5 ∷ 7 ∷ 11 ∷ 13 ∷ 17 ∷ 19 ∷ 23 ∷ 29 ∷ 31 ∷ []

abbrev pub among : ℕ → List ℕ → Bool
among p [] = false
among p (q ∷ qs) = q == p || among p qs

-- p is one of the ten
abbrev pub listed : ℕ → Bool
listed p = among p primes

-- What the code needs of its primes: their size, that they are odd, and that the multiples of each u from 1 to p - 1
-- reach every residue.
pub record PrimeFacts (p : ℕ) : Type 0 where
  pub low : 3 ≤ p
  pub high : p ≤ 31
  pub odd : p % 2 ≡ 1
  pub reach : (u i : ℕ) → 0 < u → u < p → i < p → (k : ℕ) × (k < p) × (k * u % p ≡ i)

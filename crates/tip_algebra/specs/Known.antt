-- What the known columns of a stripe join to along the lines.
use Rattle.std.specs.Prelude.{◌≡◌, ℕ, ◌+◌, ◌-◌, ◌<◌, Bool, cond, List, get_or, slice_index_or}
use Rattle.tip_element.specs.Counts.{join_below}
use Rattle.tip_code.specs.Encoding.{chain_join}
use Rattle.tip_code.specs.declared.chain.Direction.{Direction}
use Rattle.tip_algebra.specs.Unfolded.{unfolded, unfolded_anti, excess}

-- The terms of f, with zero in place of those that the test picks.
abbrev pub except : {E : Type 0} → E → (ℕ → Bool) → (ℕ → E) → ℕ → E
except none t f i = cond (t i) none (f i)

-- The test t picks the unknown columns of the stripe X. The lists d, a and r hold, at each index i, the join of the
-- other columns below p along diagonal i, antidiagonal i and row i, and e is the join of what these have in excess.
pub record KnownSums {E : Type 0} (none : E) (join : E → E → E) (p : ℕ) (t : ℕ → Bool) (X : ℕ → ℕ → E)
    (d a r : List E) (e : E) : Type 0 where
  pub diagonal : (i : ℕ) → i < p → slice_index_or d i none
      ≡ join_below none join p (except none t (λ c. unfolded none p X c (i + (p - c))))
  pub antidiagonal : (i : ℕ) → i < p → slice_index_or a i none
      ≡ join_below none join p (except none t (λ c. unfolded_anti none join p X c (i + c)))
  pub row : (i : ℕ) → i < p → slice_index_or r i none ≡ join_below none join p
      (except none t (λ c. unfolded none p X c i))
  pub excesses : e ≡ join_below none join p (except none t (λ c. excess none join p X c))

-- The list s is r with the row parities of the stripe X joined in: each at its row, and all of them at p - 1.
pub record RowSums {E : Type 0} (none : E) (join : E → E → E) (p : ℕ) (X : ℕ → ℕ → E) (r s : List E) : Type 0 where
  pub rows : (i : ℕ) → i < p - 1 → slice_index_or s i none ≡ join (slice_index_or r i none) (X i p)
  pub last : get_or s (p - 1) none ≡ join (slice_index_or r (p - 1) none) (join_below none join (p - 1) (λ i. X i p))

-- The list holds the joins of the chains of one direction of the stripe X, and zero at p - 1, which is the number of
-- none.
pub record ChainJoins {E : Type 0} (none : E) (join : E → E → E) (p : ℕ) (X : ℕ → ℕ → E) (d : Direction)
    (xs : List E) : Type 0 where
  pub chain : (i : ℕ) → i < p - 1 → slice_index_or xs i none ≡ chain_join none join p X d i
  pub last : slice_index_or xs (p - 1) none ≡ none

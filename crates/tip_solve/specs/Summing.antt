-- What is summed up of a stripe whose unknown columns are zero.
use Rattle.std.specs.Prelude.{◌≡◌, ℕ, ◌-◌, ◌<◌, List, slice_index_or}
use Rattle.tip_element.specs.Counts.{join_below}
use Rattle.tip_code.specs.Encoding.{chain_join}
use Rattle.tip_code.specs.declared.chain.Direction.TheVariants.{Row}

-- The join of the first n elements of a list.
abbrev pub all_of : {E : Type 0} → E → (E → E → E) → ℕ → List E → E
all_of none join n xs = join_below none join n (λ i. slice_index_or xs i none)

-- The list r holds the joins of the rows, and at p - 1 the join of all these and of all diagonals, which are in the
-- list d.
pub record RowChains {E : Type 0} (none : E) (join : E → E → E) (p : ℕ) (X : ℕ → ℕ → E) (d r : List E) : Type 0 where
  pub chain : (i : ℕ) → i < p - 1 → slice_index_or r i none ≡ chain_join none join p X Row i
  pub last : slice_index_or r (p - 1) none ≡ join (all_of none join (p - 1) r) (all_of none join p d)

-- Runs of elements, as lists.
use Rattle.std.specs.Prelude.{◌≡◌, ℕ, ◌<◌, ◌≤◌, List, length, slice_index_or}

-- Every element is zero.
abbrev pub AllZero : {E : Type 0} → E → List E → Type 0
AllZero none xs = (k : ℕ) → k < length xs → slice_index_or xs k none ≡ none

-- zs is xs with the elements of ys joined in, each at its index; beyond the end of ys it is xs.
pub record Joined {E : Type 0} (none : E) (join : E → E → E) (xs ys zs : List E) : Type 0 where
  pub both : (k : ℕ) → k < length xs → k < length ys → slice_index_or zs k none ≡ join (slice_index_or xs k none) (slice_index_or ys k none)
  pub beyond : (k : ℕ) → length ys ≤ k → slice_index_or zs k none ≡ slice_index_or xs k none

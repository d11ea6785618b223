-- Writing over a part of a list.
use Rattle.std.specs.Prelude.{◌≡◌, ℕ, ◌+◌, ◌<◌, List, length, slice_index_or}

-- ys is xs with the elements es written over those from index a on, and no other is changed.
pub record Pasted {E : Type 0} (none : E) (a : ℕ) (es xs ys : List E) : Type 0 where
  pub size : length ys ≡ length xs
  pub there : (r : ℕ) → r < length es → slice_index_or ys (a + r) none ≡ slice_index_or es r none
  pub elsewhere : (k : ℕ) → ((r : ℕ) → r < length es → k ≡ a + r → ⊥) → slice_index_or ys k none ≡ slice_index_or xs k none

-- Unknown columns, and what is known of them: their joins along the lines.
use Rattle.std.specs.Prelude.{◌≡◌, ℕ, ◌+◌, ◌-◌, ◌<◌, List, slice_index_or}
use Rattle.tip_algebra.specs.Cyclic.{Per}

-- The lists d and a hold the joins of the columns X, in place f, and Y, in place h, along diagonals and antidiagonals;
-- Y has a zero where its antidiagonal parity stands.
pub record PairSums {E : Type 0} (none : E) (join : E → E → E) (p f h : ℕ) (d a : List E) (X Y : ℕ → E) : Type 0 where
  pub first : Per p X
  pub last : Per p Y
  pub last_zero : Y (p - 1 - h) ≡ none
  pub diagonal : (i : ℕ) → i < p → slice_index_or d i none ≡ join (X (i + (p - f))) (Y (i + (p - h)))
  pub antidiagonal : (i : ℕ) → i < p → slice_index_or a i none ≡ join (X (i + f)) (Y (i + h))

-- The same of two columns whose joins along rows and diagonals are known.
pub record RowPairSums {E : Type 0} (none : E) (join : E → E → E) (p f h : ℕ) (r d : List E)
    (X Y : ℕ → E) : Type 0 where
  pub first : Per p X
  pub last : Per p Y
  pub last_zero : Y (p - 1 - h) ≡ none
  pub row : (i : ℕ) → i < p → slice_index_or r i none ≡ join (X i) (Y i)
  pub diagonal : (i : ℕ) → i < p → slice_index_or d i none ≡ join (X (i + (p - f))) (Y (i + (p - h)))

-- The joins of three columns, in places f, g and h, with their joins along rows in the list r.
pub record TripleSums {E : Type 0} (none : E) (join : E → E → E) (p f g h : ℕ) (r d a : List E)
    (X M Y : ℕ → E) : Type 0 where
  pub first : Per p X
  pub middle : Per p M
  pub last : Per p Y
  pub middle_zero : M (p - 1 - g) ≡ none
  pub last_zero : Y (p - 1 - h) ≡ none
  pub row : (i : ℕ) → i < p → slice_index_or r i none ≡ join (join (X i) (M i)) (Y i)
  pub diagonal : (i : ℕ) → i < p → slice_index_or d i none
      ≡ join (join (X (i + (p - f))) (M (i + (p - g)))) (Y (i + (p - h)))
  pub antidiagonal : (i : ℕ) → i < p → slice_index_or a i none ≡ join (join (X (i + f)) (M (i + g))) (Y (i + h))

-- Columns as cyclic sequences: functions on all numbers that repeat after p, and lists that hold one turn of them.
use Rattle.std.specs.Prelude.{◌≡◌, ℕ, ◌+◌, ◌-◌, ◌%◌, ◌<◌, List, slice_index_or}

-- X repeats after p.
abbrev pub Per : {E : Type 0} → ℕ → (ℕ → E) → Type 0
Per p X = (i : ℕ) → X (i + p) ≡ X i

-- The list holds one turn of X.
abbrev pub Holds : {E : Type 0} → E → ℕ → List E → (ℕ → E) → Type 0
Holds none p xs X = (i : ℕ) → i < p → slice_index_or xs i none ≡ X i

-- z is the join of s with s moved by u, at every index of a turn.
abbrev pub Steps : {E : Type 0} → E → (E → E → E) → ℕ → ℕ → List E → (ℕ → E) → Type 0
Steps none join p u z s = (i : ℕ) → i < p → slice_index_or z ((i + u) % p) none ≡ join (s ((i + u) % p)) (s i)

-- y is s joined with s k, at every index of a turn.
abbrev pub Divided : {E : Type 0} → E → (E → E → E) → ℕ → ℕ → List E → (ℕ → E) → Type 0
Divided none join p k y s = (i : ℕ) → i < p → slice_index_or y i none ≡ join (s i) (s k)

-- The list holds what it has below p again p indices on, so that a turn of it can be read from any index on.
abbrev pub Twice : {E : Type 0} → E → ℕ → List E → Type 0
Twice none p xs = (i : ℕ) → i < p → slice_index_or xs (i + p) none ≡ slice_index_or xs i none

-- The index opposite to i: the reflection that swaps row r with row p - 2 - r and leaves p - 1.
abbrev pub opposite : ℕ → ℕ → ℕ
opposite p i = p + p - 2 - i % p

-- zs is xs joined with the mirror image of ys, at every index of a turn.
abbrev pub Mirrored : {E : Type 0} → E → (E → E → E) → ℕ → List E → List E → List E → Type 0
Mirrored none join p xs ys zs =
    (i : ℕ) → i < p → slice_index_or zs i none ≡ join (slice_index_or xs i none)
    (slice_index_or ys (opposite p i % p) none)

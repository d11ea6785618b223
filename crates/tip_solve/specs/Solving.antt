-- What solving promises.
use Rattle.std.specs.Prelude.{◌≡◌, ℕ, ◌+◌, ◌-◌, ◌*◌, ◌<◌, ◌≤◌, Bool, true, false, List, Ok, Err, Result, ◌≢◌, slice_index_or}
use Rattle.tip_code.specs.Encoding.{Encoded}
use Rattle.tip_code.specs.Geometry.{cells_in}
use Rattle.tip_code.specs.Stops.{number}
use Rattle.tip_code.specs.declared.stop.Stop.{Stop}
use Rattle.tip_code.specs.declared.stop.Stop.TheVariants as stop
use Rattle.tip_columns.specs.Sets.{in_set, size}
use Rattle.tip_columns.specs.declared.Columns.{Columns}

-- How many elements a work buffer has at least.
abbrev pub work_in : ℕ → ℕ
work_in p = 4 * (p + 1) * (p + 1)

-- How many of them a stripe buffer leaves, 4(p + 1)(p + 1) - (p - 1)(p + 1).
abbrev pub room_in : ℕ → ℕ
room_in p = (p + 1) * (3 * p + 5)

-- When solving is refused: the stripe buffer has another length than is needed; the room has fewer elements than
-- `least`; a lost column is above p; more than three are lost.
pub data SolveStop (p cells room least : ℕ) (lost : Columns) : Stop → Type 0 where
  cells_length : (cells ≢ cells_in p) → SolveStop p cells room least lost stop.Length
  too_short : room < least → SolveStop p cells room least lost stop.Work
  no_column : (((c : ℕ) → in_set lost c ≡ true → c ≤ p) → ⊥) → SolveStop p cells room least lost stop.Column
  too_many : 3 < size lost → SolveStop p cells room least lost stop.Lost

-- What is known where the first three of these stops do not fit.
pub record Fitting (p cells room least : ℕ) (lost : Columns) : Type 0 where
  pub sized : cells ≡ cells_in p
  pub enough : least ≤ room
  pub columns : (c : ℕ) → in_set lost c ≡ true → c ≤ p

-- The stripes agree on the columns that are not lost.
abbrev pub Agree : {E : Type 0} → ℕ → (ℕ → Bool) → (ℕ → ℕ → E) → (ℕ → ℕ → E) → Type 0
Agree p lost X Y = (r c : ℕ) → r < p - 1 → c ≤ p → lost c ≡ false → X r c ≡ Y r c

-- Y is X with its lost columns solved: kept columns stay whatever they hold, and where they are those of an encoded
-- stripe, Y is that stripe. (Where they are those of none, the lost columns may hold anything.)
pub record Solved {E : Type 0} (none : E) (join : E → E → E) (p : ℕ) (lost : ℕ → Bool) (X Y : ℕ → ℕ → E) : Type 0 where
  pub kept : Agree p lost X Y
  pub whole : (W : ℕ → ℕ → E) → Encoded none join p W → Agree p lost X W → (r c : ℕ) → r < p - 1 → c ≤ p → Y r c ≡ W r c

-- The first n elements are zero, and those beyond are as they were.
pub record Cleared {E : Type 0} (none : E) (n : ℕ) (xs ys : List E) : Type 0 where
  pub first : (k : ℕ) → k < n → slice_index_or ys k none ≡ none
  pub beyond : (k : ℕ) → n ≤ k → slice_index_or ys k none ≡ slice_index_or xs k none

-- What a call leaves in its work buffer: cleared where it is accepted or gives stop 13, untouched at an earlier stop.
abbrev pub WorkAfter : {E A : Type 0} → E → ℕ → List E → List E → Result A Stop → Type 0
WorkAfter none n xs ys (Ok a) = Cleared none n xs ys
WorkAfter none n xs ys (Err s) = (number s < 13 → ys ≡ xs) × (number s ≡ 13 → Cleared none n xs ys)

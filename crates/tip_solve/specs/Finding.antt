-- Columns found from all others.
use Rattle.std.specs.Prelude.{◌≡◌, ℕ, ◌-◌, ◌<◌, ◌≤◌, Bool, true, false, List, slice_index_or}
use Rattle.tip_code.specs.Encoding.{Encoded}
use Rattle.tip_solve.specs.Seeking.{sought}
use Rattle.tip_solve.specs.Solving.{Agree}
use Rattle.tip_solve.specs.declared.sought.Sought.{Sought}

-- The list holds the cells of column c of the stripe X.
abbrev pub ListsColumn : {E : Type 0} → E → ℕ → (ℕ → ℕ → E) → ℕ → List E → Type 0
ListsColumn none p X c xs = (r : ℕ) → r < p - 1 → slice_index_or xs r none ≡ X r c

-- The stripes agree on the columns below p that are not sought.
abbrev pub Alike : {E : Type 0} → ℕ → Sought → (ℕ → ℕ → E) → (ℕ → ℕ → E) → Type 0
Alike p s X W = (c : ℕ) → c < p → sought s c ≡ false → (r : ℕ) → r < p - 1 → X r c ≡ W r c

-- They agree on the row parities.
abbrev pub AlikeRows : {E : Type 0} → ℕ → (ℕ → ℕ → E) → (ℕ → ℕ → E) → Type 0
AlikeRows p X W = (r : ℕ) → r < p - 1 → X r p ≡ W r p

-- Y is X but for the columns that are sought, and has those of each encoded stripe that has the other columns below p
-- of X, and the row parities of X if `rows` is true.
pub record FoundColumns {E : Type 0} (none : E) (join : E → E → E) (p : ℕ) (s : Sought) (rows : Bool)
    (X Y : ℕ → ℕ → E) : Type 0 where
  pub kept : (r c : ℕ) → r < p - 1 → c ≤ p → sought s c ≡ false → Y r c ≡ X r c
  pub found : (W : ℕ → ℕ → E) → Encoded none join p W → Alike p s X W → (rows ≡ true → AlikeRows p X W)
      → (r c : ℕ) → r < p - 1 → c < p → sought s c ≡ true → Y r c ≡ W r c

-- Y is X with its lost columns below p solved.
pub record SolvedBelow {E : Type 0} (none : E) (join : E → E → E) (p : ℕ) (lost : ℕ → Bool)
    (X Y : ℕ → ℕ → E) : Type 0 where
  pub kept : (r c : ℕ) → r < p - 1 → c ≤ p → (c < p → lost c ≡ false) → Y r c ≡ X r c
  pub whole : (W : ℕ → ℕ → E) → Encoded none join p W → Agree p lost X W → (r c : ℕ) → r < p - 1 → c < p → Y r c ≡ W r c

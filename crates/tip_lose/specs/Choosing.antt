-- Which columns may be lost. A choice is a set of columns, or none where a column is too large for any set.
use Rattle.std.specs.Prelude.{◌≡◌, ℕ, ◌<◌, ◌≤◌, true, false, Some, None, Option}
use Rattle.tip_code.specs.Primes.{listed}
use Rattle.tip_code.specs.declared.stop.Stop.{Stop}
use Rattle.tip_code.specs.declared.stop.Stop.TheVariants as stop
use Rattle.tip_columns.specs.Sets.{in_set, size}
use Rattle.tip_columns.specs.declared.Columns.{Columns}

-- No column is above p.
abbrev pub Within : ℕ → Option Columns → Type 0
Within p None = ⊥
Within p (Some s) = (c : ℕ) → in_set s c ≡ true → c ≤ p

-- There are more than three columns.
abbrev pub Many : Option Columns → Type 0
Many None = ⊥
Many (Some s) = 3 < size s

-- When a choice is refused: p is not one of the primes; a column is above p; there are too many.
pub data ChoiceStop (p : ℕ) (lost : Option Columns) : Stop → Type 0 where
  no_prime : listed p ≡ false → ChoiceStop p lost stop.Prime
  no_column : (Within p lost → ⊥) → ChoiceStop p lost stop.Column
  too_many : Many lost → ChoiceStop p lost stop.Lost

-- Which columns are solved for.
use Rattle.std.specs.Prelude.{◌≡◌, ℕ, ◌<◌, Bool, false, ◌||◌, ◌==◌}
use Rattle.tip_columns.specs.Sets.{in_set}
use Rattle.tip_columns.specs.declared.Columns.{Columns}
use Rattle.tip_solve.specs.declared.sought.Sought.{Sought}
use Rattle.tip_solve.specs.declared.sought.Sought.TheVariants.{Nothing, One, Two, Three}

-- The columns that are solved for.
abbrev pub sought : Sought → ℕ → Bool
sought Nothing c = false
sought (One f) c = c == f
sought (Two t) c = c == t.first || c == t.last
sought (Three t) c = c == t.first || (c == t.middle || c == t.last)

-- They are below p.
abbrev pub SoughtBelow : ℕ → Sought → Type 0
SoughtBelow p Nothing = Unit {0}
SoughtBelow p (One f) = f < p
SoughtBelow p (Two t) = t.last < p
SoughtBelow p (Three t) = t.last < p

-- Where three are solved for, the row parities are not lost.
abbrev pub SoughtRows : ℕ → Columns → Sought → Type 0
SoughtRows p lost (Three t) = in_set lost p ≡ false
SoughtRows p lost s = Unit {0}

-- The columns below p that are lost.
pub record Seeks (p : ℕ) (lost : Columns) (s : Sought) : Type 0 where
  pub below : SoughtBelow p s
  pub all : (c : ℕ) → c < p → in_set lost c ≡ sought s c
  pub rows : SoughtRows p lost s

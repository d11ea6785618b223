-- Sets of columns, as the bits of one word.
use Rattle.std.specs.Prelude.{ℕ, Bool}
use Rattle.tip_element.specs.Counts.{count_below}
use Rattle.tip_element.specs.Traces.{bit}
use Rattle.tip_columns.specs.declared.Columns.{Columns}

-- Column c is in the set: bit c of its word.
abbrev pub in_set : Columns → ℕ → Bool
in_set s c = bit s.0 c

-- How many columns are in the set.
unfoldable pub size : Columns → ℕ
size s = count_below 64 (in_set s)

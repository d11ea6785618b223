use Rattle.std.proofs.Common.{ℕ, ◌<◌, get_or}
use Rattle.tip_element.specs.Traces.{Just, no_trace}
use Rattle.tip_cover.proofs.own_numbers.Given as goal

abbrev pub invariant-loop-place : goal.invariant-loop-place
invariant-loop-place l = (n : ℕ) → n < l.place → Just n (get_or l.values n no_trace)

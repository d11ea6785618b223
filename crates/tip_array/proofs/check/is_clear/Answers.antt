use Rattle.std.proofs.Common.{sym, ◌∙◌, arith}
use Rattle.tip_array.proofs.Checking.{parity_met, clear_free, clear_missed, clear_all, none_there}
use Rattle.tip_array.proofs.check.is_clear.Goals as goal
use Rattle.tip_array.proofs.check.is_clear.Goals.{else-has-2-via-then-has-2+else-is_some, else-has-2-via-else-has-2}

pub returns-then-has : goal.returns-then-has
returns-then-has c = parity_met c.in-Some.ensures.1 (sym c.has.ensures ∙ c.if-has.true)

pub loop-column-preserved : goal.loop-column-preserved
loop-column-preserved c =
    elim c.else-has-2.branch [
      | else-has-2-via-then-has-2+else-is_some w ↦ clear_missed c.loop-column.invariant (none_there _ _ _ _ w.covered.result (sym w.is_some.ensures ∙ w.if-is_some.false) w.covered.ensures)
      | else-has-2-via-else-has-2 w ↦ clear_free c.loop-column.invariant (sym c.has-in-loop-column.ensures ∙ w.if-has-2.false)
    ]

pub returns : goal.returns
returns c = clear_all c.loop-column.invariant c.in-Some.ensures.1 (sym c.has.ensures ∙ c.if-has.false) (omega (arith, c.loop-column-test.false, c.prime-column-end.ensures.value))

use Rattle.std.proofs.Common.{arith}
use Rattle.tip_shelf.proofs.Faring.{fared-then, fared_same}
use Rattle.tip_array.proofs.Checking.{check_stopped, check_step, marks_end}
use Rattle.tip_array.proofs.array.Array.check.Goals as goal

pub returns-then-stripe-stripes-clause-step : goal.returns-then-stripe-stripes-clause-step
returns-then-stripe-stripes-clause-step g c = check_stopped _ _ (omega (arith, c.if-stripe-stripes.true, c.stripes.ensures.value, c.geometry.ensures.stripes))

pub count_chains-requires-clause-marks : goal.count_chains-requires-clause-marks
count_chains-requires-clause-marks g c = marks_end (g.met.S.Shelf.sound c.args.self.now.shelf).prime c.failing_chains-failing.ensures.marked c.columns_out-out.ensures.picked.same

pub returns-clause-step : goal.returns-clause-step
returns-clause-step g c =
    check_step _ _ c.count_chains.result (omega (arith, c.if-stripe-stripes.false, c.stripes.ensures.value, c.geometry.ensures.stripes))
    (fared-then c.failing_chains-failing.ensures.marked.fared (fared_same c.columns_out-out.ensures.picked.same))
    c.count_chains.ensures.whole c.count_chains.ensures.failing

use Rattle.std.proofs.Common.{◌∙◌, arith}
use Rattle.tip_shelf.proofs.Series.{at_most_then}
use Rattle.tip_gather.proofs.Picking.{picked_more, picked_skip}
use Rattle.tip_gather.proofs.columns.columns_out.Goals as goal
use Rattle.tip_gather.proofs.columns.columns_out.Goals.{then-is_out, else-is_out}

pub loop-column-preserved : goal.loop-column-preserved
loop-column-preserved g c =
    let l = c.loop-column in
    let e = c.is_out.ensures in
    record {
      picked = elim c.if-is_out.branch [
        | then-is_out w ↦ picked_more l.invariant.picked e.same e.value w.if-is_out.true w.out-is w.added-out.ensures
        | else-is_out w ↦ picked_skip l.invariant.picked e.same e.value w.if-is_out.false w.out-is
      ];
      calls = at_most_then _ l.invariant.calls e.calls (omega arith);
      lent = e.lent ∙ l.invariant.lent;
    }

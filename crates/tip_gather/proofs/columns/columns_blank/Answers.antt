use Rattle.std.proofs.Common.{◌∙◌, arith}
use Rattle.tip_shelf.proofs.Series.{at_most_then}
use Rattle.tip_gather.proofs.Picking.{picked_more, picked_skip}
use Rattle.tip_gather.proofs.columns.columns_blank.Goals as goal
use Rattle.tip_gather.proofs.columns.columns_blank.Goals.{then-is_blank, else-is_blank}

pub loop-column-preserved : goal.loop-column-preserved
loop-column-preserved g c =
    let l = c.loop-column in
    let e = c.is_blank.ensures in
    record {
      picked = elim c.if-is_blank.branch [
        | then-is_blank w ↦ picked_more l.invariant.picked e.same e.value w.if-is_blank.true w.blank-is w.added-blank.ensures
        | else-is_blank w ↦ picked_skip l.invariant.picked e.same e.value w.if-is_blank.false w.blank-is
      ];
      calls = at_most_then _ l.invariant.calls e.calls (omega arith);
      lent = e.lent ∙ l.invariant.lent;
    }

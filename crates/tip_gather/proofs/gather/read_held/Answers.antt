use Rattle.std.proofs.Common.{◌∙◌, arith}
use Rattle.tip_gather.proofs.Counting.{column_asked, column_read}
use Rattle.tip_gather.proofs.Reading.{columns_more, columns_skip}
use Rattle.tip_gather.proofs.gather.read_held.Goals as goal
use Rattle.tip_gather.proofs.gather.read_held.Goals.{then-not-is_out, else-not-is_out}

pub loop-column-preserved : goal.loop-column-preserved
loop-column-preserved g c =
    let l = c.loop-column in
    let e = c.is_out.ensures in
    let end = c.columns_of-column-end.ensures in
    let prime = e.same.kept.prime ∙ l.invariant.read.fared.kept.prime in
    record {
      read = grind (arith, columns_more, columns_skip);
      calls = elim c.if-not-is_out.branch [
        | then-not-is_out w ↦ rw w.shelf-is
            (column_read l.column _ _ prime (omega (arith, end.value, end.least))
            l.invariant.calls
            e.calls
            w.read_strip.ensures.calls)
        | else-not-is_out w ↦ rw w.shelf-is
            (column_asked l.column _ _ prime (omega (arith, end.value, end.least)) l.invariant.calls e.calls)
      ];
      lent = grind arith;
    }

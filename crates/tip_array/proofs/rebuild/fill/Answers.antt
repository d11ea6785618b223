use Rattle.std.proofs.Common.{◌≤◌, ap, ◌∙◌, arith}
use Rattle.tip_array.proofs.Filling.{filled_more, filled_skip, column_is}
use Rattle.tip_array.proofs.rebuild.fill.Goals as goal
use Rattle.tip_array.proofs.rebuild.fill.Goals.{then-is_blank, else-is_blank}

pub loop-column-preserved : goal.loop-column-preserved
loop-column-preserved g c =
    let l = c.loop-column in
    let e = c.is_blank.ensures in
    let m = g.S.Shelf.meaning in
    let rows = c.rows_of-rows.ensures in
    let low : l.column ≤ (m c.args.shelf.now).prime = omega (arith, c.loop-column-test.true, c.columns_of-column-end.ensures.value, l.invariant.filled.kept.prime) in
    record {
      filled = elim c.if-is_blank.branch [
        | then-is_blank w ↦ rw (ap m w.shelf-is) (filled_more l.invariant.filled e.same e.value w.if-is_blank.true
            (record { within = record { stripe = omega (arith, c.requires.there, e.same.kept.stripes, l.invariant.filled.kept.stripes); column = omega (arith, low, e.same.kept.prime, l.invariant.filled.kept.prime) }; sized = omega (arith, w.column_of.ensures.sized, rows, e.same.kept.prime, l.invariant.filled.kept.prime) })
            (column_is g.S.Element.Element.zero (m c.args.shelf.now).prime l.column c.rows_of-rows.result c.args.cells.now w.column_of.result.now rows w.column_of.ensures.sized w.column_of.ensures.cells)
            w.restore-restored.ensures.act)
        | else-is_blank w ↦ rw (ap m w.shelf-is) (filled_skip l.invariant.filled e.same e.value w.if-is_blank.false)
      ];
      lent = elim c.if-is_blank.branch [
        | then-is_blank w ↦ ap g.S.Shelf.lent w.shelf-is ∙ w.restore-restored.ensures.lent ∙ e.lent ∙ l.invariant.lent
        | else-is_blank w ↦ ap g.S.Shelf.lent w.shelf-is ∙ e.lent ∙ l.invariant.lent
      ];
    }

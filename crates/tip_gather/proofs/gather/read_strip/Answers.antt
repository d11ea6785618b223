use Rattle.std.proofs.Common.{◌∙◌, arith}
use Rattle.tip_shelf.specs.Performing.{Performed}
use Rattle.tip_shelf.proofs.Series.{at_most_then, at_most_more}
use Rattle.tip_gather.proofs.Counting.{one_get}
use Rattle.tip_gather.proofs.Reading.{rows_more, rows_out}
use Rattle.tip_gather.proofs.gather.read_strip.Goals as goal

pub loop-row-preserved : goal.loop-row-preserved
loop-row-preserved g c =
    let l = c.loop-row in
    let one =
    one_get (Performed g.S.Shelf.meaning g.S.Shelf.performs) _ _ c.args.stripe c.args.column _ _
    (record { act = c.get.ensures.act; own = c.get.ensures.performs }) in
    record {
      read = rows_more g.S.Element.Element.zero c.requires.there (omega arith) l.invariant.read c.rows_of-rows.ensures (l.auto.cells ∙ c.requires.sized) c.in-Ok.ensures.act c.set_cell.ensures;
      calls = at_most_then _ l.invariant.calls one (omega arith);
      lent = c.get.ensures.lent ∙ l.invariant.lent;
    }

pub returns-in_default-clause-read : goal.returns-in_default-clause-read
returns-in_default-clause-read g c = rows_out g.S.Element.Element.zero c.requires.there (omega arith) c.loop-row.invariant.read c.in_default.ensures.act

pub returns-in_default-clause-calls : goal.returns-in_default-clause-calls
returns-in_default-clause-calls g c =
    let one =
    one_get (Performed g.S.Shelf.meaning g.S.Shelf.performs) _ _ c.args.stripe c.args.column _ _
    (record { act = c.get.ensures.act; own = c.get.ensures.performs }) in
    at_most_then _ c.loop-row.invariant.calls one (omega arith)

pub returns-clause-calls : goal.returns-clause-calls
returns-clause-calls g c = at_most_more c.loop-row.invariant.calls (omega arith)

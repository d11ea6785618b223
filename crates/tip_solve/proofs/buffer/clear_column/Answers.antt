use Rattle.std.proofs.Common.{◌∙◌, arith}
use Rattle.tip_solve.proofs.Written.{part_long, elsewhere}
use Rattle.tip_solve.proofs.buffer.clear_column.Goals as goal

pub returns-clause-elsewhere : goal.returns-clause-elsewhere
returns-clause-elsewhere g c =
    let xs = c.args.cells.now in
    let ys = c.clear.new.elements in
    let start = c.column_start-start.ensures in
    elsewhere g.E.Element.zero c.args.prime.number c.args.column _ _ xs ys (omega (arith, start.value)) (omega (arith, start.value))
    (omega (arith, start.within, c.requires.1)) (c.clear.auto.elements ∙ part_long _ _ xs (omega (arith, start.within, c.requires.1)))

use Rattle.std.proofs.Common.{◌∙◌, arith}
use Rattle.tip_solve.proofs.Written.{part_long, elsewhere}
use Rattle.tip_solve.proofs.buffer.write_column.Goals as goal

pub returns-clause-elsewhere : goal.returns-clause-elsewhere
returns-clause-elsewhere g c =
    let xs = c.args.cells.now in
    let ys = c.copy_from_slice.new.self in
    let start = c.column_start-start.ensures in
    elsewhere g.E.Element.zero c.args.prime.number c.args.column _ _ xs ys (omega (arith, start.value)) (omega (arith, start.value))
    (omega (arith, start.within, c.requires.1)) (c.copy_from_slice.auto.self ∙ part_long _ _ xs (omega (arith, start.within, c.requires.1)))

use Rattle.std.proofs.Common.{arith}
use Rattle.tip_code.specs.Stripe.{stripe_of}
use Rattle.tip_solve.proofs.Recovering.{rows_same}
use Rattle.tip_solve.proofs.sums.read_three.Goals as goal

pub returns-clause-rows : goal.returns-clause-rows
returns-clause-rows g c =
    let m = g.E.Element in
    let s = c.args.stripe.now in
    rows_same m.zero m.join s.prime.number (stripe_of m.zero s.prime.number s.cells.now)
    c.read_diagonals.new.diagonals c.read_rows.new.rows c.repeat.new.run
    (omega (arith, s.prime.low)) c.repeat.ensures.first c.read_rows.ensures

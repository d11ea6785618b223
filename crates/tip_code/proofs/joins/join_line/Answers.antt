use Rattle.std.proofs.Common.{arith}
use Rattle.tip_code.specs.Stripe.{stripe_of}
use Rattle.tip_code.proofs.Steps.{joined_more, joined_past}
use Rattle.tip_code.proofs.joins.join_line.Goals as goal

pub returns-then-this : goal.returns-then-this
returns-then-this g c =
    let m = g.E.Element in
    let P = g.row.P in
    joined_more m.zero m.join P (stripe_of m.zero P c.args.cells.now) c.args.direction g.row.LINE c.args.joins.now
    c.line_at.result c.requires.room (omega arith) c.line_at.ensures

pub returns-else-this : goal.returns-else-this
returns-else-this g c =
    let m = g.E.Element in
    let P = g.row.P in
    joined_past m.zero m.join P (stripe_of m.zero P c.args.cells.now) c.args.direction g.row.LINE c.args.joins.now
    (omega arith)

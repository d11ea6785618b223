use Rattle.std.proofs.Common.{◌≡◌}
use Rattle.tip_element.specs.Counts.{join_below}
use Rattle.tip_code.specs.Stripe.{stripe_of}
use Rattle.tip_code.proofs.joins.row_eight.Given as goal

abbrev pub invariant-loop-column : goal.invariant-loop-column
invariant-loop-column g l =
    let m = g.E.Element in
    l.all ≡ join_below m.zero m.join l.column (stripe_of m.zero l.prime.number l.cells l.row)

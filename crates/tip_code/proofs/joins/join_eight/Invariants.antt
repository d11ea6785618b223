use Rattle.std.proofs.Common.{◌≡◌}
use Rattle.tip_element.specs.Counts.{join_below}
use Rattle.tip_code.specs.Encoding.{datum}
use Rattle.tip_code.specs.Stripe.{crossing, stripe_of}
use Rattle.tip_code.proofs.joins.join_eight.Given as goal

abbrev pub invariant-loop-column : goal.invariant-loop-column
invariant-loop-column g l =
    let m = g.E.Element in
    let p = l.prime.number in
    l.all ≡ join_below m.zero m.join l.column
    (λ c. datum m.zero p (stripe_of m.zero p l.cells) (crossing p l.chain.direction l.chain.line c) c)

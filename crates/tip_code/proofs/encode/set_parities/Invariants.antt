use Rattle.tip_code.specs.Stripe.{stripe_of}
use Rattle.tip_code.proofs.Filling.{Copied}
use Rattle.tip_code.proofs.encode.set_parities.Given as goal

abbrev pub invariant-loop-line : goal.invariant-loop-line
invariant-loop-line g l =
    let none = g.E.Element.zero in
    let P = g.row.P in
    Copied P l.direction l.line (stripe_of none P l.initial.cells) (stripe_of none P l.cells)

use Rattle.std.proofs.Common.{◌≡◌, ap, ◌∙◌, arith}
use Rattle.tip_code.specs.Encoding.{line_join}
use Rattle.tip_code.specs.Stripe.{stripe_of}
use Rattle.tip_code.proofs.Steps.{joined_whole}
use Rattle.tip_code.proofs.joins.line_at.Goals as goal

pub returns : goal.returns
returns g c =
    let m = g.E.Element in
    let p = c.known-prime.result.number in
    let chain = c.args.chain in
    let at = stripe_of m.zero p c.args.cells.now in
    c.join_eight.ensures
    ∙ joined_whole m.zero m.join p at chain.direction chain.line 32 (omega (arith, c.known-prime.result.high))
    ∙ ap (λ q. line_join m.zero m.join q (stripe_of m.zero q c.args.cells.now) chain.direction chain.line)
    c.known-prime.ensures

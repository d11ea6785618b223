use Rattle.std.proofs.Common.{◌-◌, subst, arith}
use Rattle.tip_code.specs.Joining.{LinesJoined}
use Rattle.tip_code.specs.Stripe.{stripe_of}
use Rattle.tip_code.specs.declared.chain.Direction.{Direction}
use Rattle.tip_code.proofs.Steps.{joined_none}
use Rattle.tip_code.proofs.Tables.{prime_facts}
use Rattle.tip_code.proofs.joins.join_direction.Goals as goal

pub returns : goal.returns
returns g c =
    let m = g.E.Element in
    let P = g.row.P in
    let X = stripe_of m.zero P c.args.cells.now in
    let none = joined_none m.zero m.join P X c.ranked-direction.result c.args.joins.now in
    let all =
    (c.join_line-30.ensures (c.join_line-29.ensures (c.join_line-28.ensures (c.join_line-27.ensures
    (c.join_line-26.ensures (c.join_line-25.ensures (c.join_line-24.ensures (c.join_line-23.ensures
    (c.join_line-22.ensures (c.join_line-21.ensures (c.join_line-20.ensures (c.join_line-19.ensures
    (c.join_line-18.ensures (c.join_line-17.ensures (c.join_line-16.ensures (c.join_line-15.ensures
    (c.join_line-14.ensures (c.join_line-13.ensures (c.join_line-12.ensures (c.join_line-11.ensures
    (c.join_line-10.ensures (c.join_line-9.ensures (c.join_line-8.ensures (c.join_line-7.ensures
    (c.join_line-6.ensures (c.join_line-5.ensures (c.join_line-4.ensures (c.join_line-3.ensures
    (c.join_line-2.ensures (c.join_line.ensures none)))))))))))))))))))))))))))))) in
    let high = (prime_facts P c.requires.prime).high in
    subst (λ (d : Direction). LinesJoined m.zero m.join P X d (P - 1) c.join_line-30.new.joins) c.ranked-direction.ensures
    (λ i low below. all i (omega (arith, below, high)) below)

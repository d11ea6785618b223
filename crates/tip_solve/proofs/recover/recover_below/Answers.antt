use Rattle.std.proofs.Common.{true, false, sym, refl}
use Rattle.std.proofs.lemmas.Bool.{both_ways}
use Rattle.tip_code.specs.Stripe.{stripe_of}
use Rattle.tip_solve.specs.Seeking.{Seeks}
use Rattle.tip_solve.specs.declared.sought.Sought.TheVariants.{Two, Three}
use Rattle.tip_solve.proofs.Recovering.{solved_below}
use Rattle.tip_solve.proofs.recover.recover_below.Goals as goal

pub returns-then-has-clause-solved : goal.returns-then-has-clause-solved
returns-then-has-clause-solved g c =
    let m = g.E.Element in
    let p = c.args.stripe.now.prime.number in
    let seeks : Seeks p c.args.lost (Two c.in-Two.at) = c.in-Two.ensures in
    let at = stripe_of m.zero p in
    solved_below m.zero m.join p c.args.lost (Two c.in-Two.at) seeks (at c.args.stripe.now.cells.now)
    (at c.recover_crossed.new.stripe.cells.now) false
    (λ e. absurd (both_ways false refl e)) c.recover_crossed.ensures.found

pub returns-else-has-clause-solved : goal.returns-else-has-clause-solved
returns-else-has-clause-solved g c =
    let m = g.E.Element in
    let p = c.args.stripe.now.prime.number in
    let seeks : Seeks p c.args.lost (Two c.in-Two.at) = c.in-Two.ensures in
    let at = stripe_of m.zero p in
    solved_below m.zero m.join p c.args.lost (Two c.in-Two.at) seeks (at c.args.stripe.now.cells.now)
    (at c.recover_two.new.stripe.cells.now) true (λ _. sym c.if-has.ensures) c.recover_two.ensures.found

pub returns-in-Three-clause-solved : goal.returns-in-Three-clause-solved
returns-in-Three-clause-solved g c =
    let m = g.E.Element in
    let p = c.args.stripe.now.prime.number in
    let seeks : Seeks p c.args.lost (Three c.in-Three.at) = c.in-Three.ensures in
    let at = stripe_of m.zero p in
    solved_below m.zero m.join p c.args.lost (Three c.in-Three.at) seeks (at c.args.stripe.now.cells.now)
    (at c.recover_three.new.stripe.cells.now) true (λ _. seeks.rows) c.recover_three.ensures.found

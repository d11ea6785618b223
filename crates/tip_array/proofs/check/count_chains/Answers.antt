use Rattle.std.proofs.Common.{◌<◌, ap, subst, refl, arith}
use Rattle.tip_element.specs.Laws.{Exactly}
use Rattle.tip_code.specs.Stripe.{Numbered, chains_in}
use Rattle.tip_array.specs.Checking.{ClearOf}
use Rattle.tip_array.proofs.Checking.{tallied_none, tally_both, tally_whole, tally_skip, tally_end_whole, tally_end_failing}
use Rattle.tip_array.proofs.check.count_chains.Goals as goal
use Rattle.tip_array.proofs.check.count_chains.Goals.{then-is_clear+then-has, then-is_clear+else-has, else-is_clear}

pub loop-number-init : goal.loop-number-init
loop-number-init g c = tallied_none refl refl

pub loop-number-preserved : goal.loop-number-preserved
loop-number-preserved g c =
    let l = c.loop-number in
    let e = c.geometry-geometry.ensures.prime in
    let d = c.in-Some.chain.direction in
    let k = c.in-Some.chain.line in
    let low : l.number < chains_in (g.S.Shelf.meaning c.args.shelf.now).prime = omega (arith, c.loop-number-test.true, c.chains-number-end.ensures, ap chains_in e) in
    let num = subst (λ p. Numbered p d k l.number) e c.in-Some.ensures in
    let clear = subst (λ p. Exactly c.is_clear.result (ClearOf p d k c.args.out)) e c.is_clear.ensures in
    elim c.if-is_clear.branch [
      | then-is_clear+then-has w ↦ tally_both low num c.requires.out c.requires.marks l.invariant clear w.has.ensures w.if-is_clear.true w.if-has.true w.counts-is
      | then-is_clear+else-has w ↦ tally_whole low num c.requires.out c.requires.marks l.invariant clear w.has.ensures w.if-is_clear.true w.if-has.false w.counts-is
      | else-is_clear w ↦ tally_skip low num c.requires.out c.requires.marks l.invariant clear w.if-is_clear.false w.counts-is
    ]

pub returns-clause-whole : goal.returns-clause-whole
returns-clause-whole g c = tally_end_whole c.loop-number.invariant (omega (arith, c.loop-number-test.false, c.loop-number.auto.number-end, c.chains-number-end.ensures, ap chains_in c.geometry-geometry.ensures.prime))

pub returns-clause-failing : goal.returns-clause-failing
returns-clause-failing g c = tally_end_failing c.loop-number.invariant (omega (arith, c.loop-number-test.false, c.loop-number.auto.number-end, c.chains-number-end.ensures, ap chains_in c.geometry-geometry.ensures.prime))

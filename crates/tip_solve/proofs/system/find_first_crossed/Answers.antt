use Rattle.std.proofs.Common.{◌+◌, ◌-◌, ap₂, ◌∙◌, arith}
use Rattle.tip_algebra.proofs.Cyclic.{twice_at}
use Rattle.tip_algebra.proofs.Pair.{pair_first}
use Rattle.tip_solve.proofs.system.find_first_crossed.Goals as goal

pub returns : goal.returns
returns g c X Y s held =
    let m = g.E.Element in
    let sums = c.args.sums.now in
    let p = sums.prime.number in
    let f = c.args.at.first in
    let h = c.args.at.last in
    let ordered = c.args.at.ordered in
    let d = sums.diagonals.now in
    let y = c.args.last.now in
    pair_first m.laws p f h ordered c.requires.below d sums.antidiagonals.now X Y s y c.join_two.new.joins held
    (λ i l. c.join_two.ensures i l
    ∙ ap₂ m.join (twice_at m.zero p d c.requires.twice.0 (i + f) (omega (arith, ordered, c.requires.below)))
    (twice_at m.zero p y c.requires.twice.1 (i + (p + f - h)) (omega (arith, ordered))))

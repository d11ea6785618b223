use Rattle.std.proofs.Common.{◌+◌, ◌-◌, get_or, ap, ◌∙◌, add-zero, arith}
use Rattle.tip_algebra.proofs.Cyclic.{twice_at}
use Rattle.tip_algebra.proofs.Middle.{rows_left}
use Rattle.tip_solve.proofs.system.find_outer.Goals as goal

pub returns-clause-found : goal.returns-clause-found
returns-clause-found g c X M Y s =
    let e = g.E.Element in
    let sums = c.args.sums.now in
    let p = sums.prime.number in
    let f = c.args.at.first in
    let j = c.args.at.middle in
    let h = c.args.at.last in
    let r = sums.rows.now in
    let d = sums.diagonals.now in
    let m = c.find_middle.new.middle in
    let held = c.find_middle.ensures.found X M Y s in
    let rows = c.join_from.new.sum in
    let left =
    rows_left e.laws p f j h c.args.at.ordered c.args.at.ascending c.requires.below r d sums.antidiagonals.now X M Y s
    m rows c.repeat.new.run held
    (λ i l. c.join_from.ensures i l ∙ ap (λ n. e.join (get_or r i e.zero) (get_or m n e.zero)) (add-zero i))
    (λ i l. c.repeat.ensures.first i l ∙ c.join_from-2.ensures i l
    ∙ ap (e.join (get_or d i e.zero)) (twice_at e.zero p m c.find_middle.ensures.twice (i + (p - j))
    (omega (arith, c.args.at.ordered)))) in
    (held, c.find_last.ensures X Y left, left.row)

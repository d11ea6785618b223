use Rattle.std.proofs.Common.{◌≡◌, ℕ, ◌+◌, ◌-◌, ◌%◌, ◌<◌, get_or, ap, ◌∙◌, add-zero, arith}
use Rattle.tip_algebra.proofs.Constants.{from_zero}
use Rattle.tip_algebra.proofs.Cyclic.{twice_at}
use Rattle.tip_algebra.proofs.Pair.{row_pair_steps}
use Rattle.tip_solve.proofs.system.find_last.Goals as goal

pub returns : goal.returns
returns g c X Y s =
    let m = g.E.Element in
    let sums = c.args.sums.now in
    let p = sums.prime.number in
    let f = c.args.at.first in
    let h = c.args.at.last in
    let r = sums.rows.now in
    let d = sums.diagonals.now in
    let z = c.join_two.new.joins in
    let below = c.requires.below in
    let joined : (i : ℕ) → i < p → get_or z i m.zero ≡ m.join (get_or r i m.zero) (get_or d ((i + f) % p) m.zero) =
    λ i l. c.join_two.ensures i l ∙ ap (λ n. m.join (get_or r n m.zero) (get_or d (i + f) m.zero)) (add-zero i) ∙ ap
    (m.join (get_or r i m.zero)) (twice_at m.zero p d c.requires.twice (i + f) (omega (arith, c.args.at.ordered)))
    in
    from_zero m.laws p (p - 1 - h) c.divide.new.quotient Y
    (c.divide.ensures Y (row_pair_steps m.laws p f h c.args.at.ordered below r d X Y s z joined)) s.last_zero

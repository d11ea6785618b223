use Rattle.std.proofs.Common.{◌≡◌, ℕ, ◌-◌, ◌<◌, cond, eqb, get_or, ap, ◌∙◌, arith}
use Rattle.tip_code.proofs.Tables.{prime_facts}
use Rattle.tip_algebra.specs.Unfolded.{unfolded}
use Rattle.tip_algebra.proofs.Lost.{two_plain}
use Rattle.tip_solve.proofs.recover.cells_of_two.Goals as goal

pub returns : goal.returns
returns g c X r enc known =
    let m = g.E.Element in
    let s = c.args.sums.now in
    let p = s.prime.number in
    let facts = prime_facts p s.prime.listed in
    let f = c.args.at.first in
    let h = c.args.at.last in
    let ordered = c.args.at.ordered in
    let below = c.requires.below in
    let d = s.diagonals.now in
    let a = s.antidiagonals.now in
    let o = c.parities_of_two-of_first in
    let both = o.ensures X r enc known in
    let a₃ = c.repeat.new.run in
    let long = s.antidiagonals_long in
    let sums = two_plain m.laws p facts X enc f h ordered below d a r c.args.all known o.result.0 o.result.1 both.0
    both.1 a₃
    (λ k l. c.repeat.ensures.first k l
    ∙ c.join_at-2.ensures k (omega (arith, long, c.join_at.auto.elements))
    ∙ ap (λ z. m.join z (cond (eqb k (p - 1 - h)) o.result.1 m.zero)) (c.join_at.ensures k (omega (arith, long)))) in
    let U = unfolded m.zero p X in
    let last = c.find_last_crossed.ensures (U f) (U h) sums in
    let held : (i : ℕ) → i < p → get_or c.repeat-2.new.run i m.zero
    ≡ U h i = λ i l. c.repeat-2.ensures.first i l ∙ last i l in
    let first = c.find_first_crossed.ensures (U f) (U h) sums held in
    (c.fold_back.ensures X first both.0, c.fold_back-2.ensures X held both.1)

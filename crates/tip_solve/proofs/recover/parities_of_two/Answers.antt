use Rattle.std.proofs.Common.{ℕ, ◌-◌, ◌<◌, ◌≤◌, [], ◌∷◌, length, ◌∙◌, subst, arith}
use Rattle.std.proofs.lemmas.List.{get_or_read}
use Rattle.tip_code.proofs.Tables.{prime_facts}
use Rattle.tip_algebra.specs.Cyclic.{Holds}
use Rattle.tip_algebra.specs.Unfolded.{folded, excess}
use Rattle.tip_algebra.specs.Unknown.{PairSums}
use Rattle.tip_algebra.proofs.Group.{v, ◌⊕◌, ◌≐◌, solveBy}
use Rattle.tip_algebra.proofs.Lost.{two_excess, two_folded}
use Rattle.tip_algebra.proofs.Rules.{folded_last}
use Rattle.tip_solve.proofs.recover.parities_of_two.Goals as goal

pub returns : goal.returns
returns g c X r enc known =
    let m = g.E.Element in
    let s = c.args.sums.now in
    let p = s.prime.number in
    let facts = prime_facts p s.prime.listed in
    let f = c.args.at.first in
    let h = c.args.at.last in
    let ordered = c.args.at.ordered in
    let below = c.requires.0 in
    let d = s.diagonals.now in
    let a = s.antidiagonals.now in
    let some : 0 < p = omega (arith, s.prime.low) in
    let F = c.fold_lines_into.new.folded in
    let k = c.fold_lines_into.ensures in
    let y = c.find_last_crossed.new.last in
    let sums = two_folded m.laws p facts X enc f h ordered below d a r c.args.all known F.diagonals.now
    F.antidiagonals.now k.diagonals k.antidiagonals in
    let found =
    subst (λ (n : ℕ). (U V : ℕ → g.row.E.Denot) → PairSums m.zero m.join n f h F.diagonals.now F.antidiagonals.now U V
    → Holds m.zero n y V)
    k.prime c.find_last_crossed.ensures in
    let held = found (folded m.zero m.join p X f) (folded m.zero m.join p X h) sums in
    let long : p ≤ length y = omega (arith, c.find_last_crossed.auto.last, c.three_runs-joins.ensures.second) in
    let of_last = get_or_read y (p - 1) c.index-last-prime.result
    (omega (arith, long)) c.index-last-prime.is m.zero ∙ held (p - 1)
    (omega arith) ∙ folded_last m.laws p X h some in
    let all = two_excess m.laws p facts X enc f h ordered below d a r c.args.all known in
    let ef = excess m.zero m.join p X f in
    let eh = excess m.zero m.join p X h in (
      solveBy m.laws (c.join.result ∷ c.args.all ∷ c.index-last-prime.result ∷ ef ∷ eh ∷ []) (v 0) (v 3)
          ((v 0 ≐ v 1 ⊕ v 2) ∷ (v 1 ≐ v 3 ⊕ v 4) ∷ (v 2 ≐ v 4) ∷ []) tt
          (c.join.ensures, (all, (of_last, tt))),
      of_last,
    )

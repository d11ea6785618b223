use Rattle.std.proofs.Common.{ℕ, ◌-◌, ◌<◌, ◌≤◌, [], ◌∷◌, length, ◌∙◌, subst, arith}
use Rattle.std.proofs.lemmas.List.{get_or_read}
use Rattle.tip_code.proofs.Tables.{prime_facts}
use Rattle.tip_algebra.specs.Cyclic.{Holds}
use Rattle.tip_algebra.specs.Unfolded.{folded, excess}
use Rattle.tip_algebra.specs.Unknown.{TripleSums}
use Rattle.tip_algebra.proofs.Group.{v, ◌⊕◌, ◌≐◌, solveBy}
use Rattle.tip_algebra.proofs.Lost.{three_excess, three_folded}
use Rattle.tip_algebra.proofs.Rules.{folded_last}
use Rattle.tip_solve.proofs.recover.parities_of_three.Goals as goal

pub returns : goal.returns
returns g c X r enc known rows =
    let m = g.E.Element in
    let s = c.args.sums.now in
    let p = s.prime.number in
    let facts = prime_facts p s.prime.listed in
    let f = c.args.at.first in
    let j = c.args.at.middle in
    let h = c.args.at.last in
    let ordered = c.args.at.ordered in
    let ascending = c.args.at.ascending in
    let below = c.requires.below in
    let d = s.diagonals.now in
    let a = s.antidiagonals.now in
    let some : 0 < p = omega (arith, s.prime.low) in
    let E = folded m.zero m.join p X in
    let F = c.fold_into.new.folded in
    let k = c.fold_into.ensures in
    let y = c.find_outer.new.middle in
    let z = c.find_outer.new.last in
    let sums = three_folded m.laws p facts X enc f j h ordered ascending below d a r c.args.all known s.rows.now
    rows.rows rows.last F.diagonals.now F.antidiagonals.now F.rows.now k.diagonals k.antidiagonals k.rows k.last
    in
    let found =
    subst (λ (n : ℕ). (U M V : ℕ → g.row.E.Denot) → TripleSums m.zero m.join n f j h F.rows.now F.diagonals.now
    F.antidiagonals.now U M V → Holds m.zero n y M × Holds m.zero n z V
    × Holds m.zero n c.find_outer.new.sums.rows.now (λ i. m.join (U i) (V i)))
    k.prime c.find_outer.ensures.found in
    let held = found (E f) (E j) (E h) sums in
    let long-y : p ≤ length y = omega (arith, c.find_outer.auto.middle, c.requires.sized.1) in
    let long-z : p ≤ length z = omega (arith, c.find_outer.auto.last, c.requires.sized.2) in
    let of_middle = get_or_read y (p - 1) c.index-middle-prime.result
    (omega (arith, long-y)) c.index-middle-prime.is m.zero ∙ held.0 (p - 1)
    (omega arith) ∙ folded_last m.laws p X j some in
    let of_last = get_or_read z (p - 1) c.index-last-prime.result
    (omega (arith, long-z)) c.index-last-prime.is m.zero ∙ held.1 (p - 1)
    (omega arith) ∙ folded_last m.laws p X h some in
    let all = three_excess m.laws p facts X enc f j h ordered ascending below d a r c.args.all known s.rows.now
    rows.rows rows.last in
    let e = excess m.zero m.join p X in (
      solveBy m.laws (c.join-2.result ∷ c.join.result ∷ c.args.all ∷ c.index-middle-prime.result ∷
          c.index-last-prime.result ∷ e f ∷ e j ∷ e h ∷ [])
          (v 0) (v 5) ((v 0 ≐ v 1 ⊕ v 4) ∷ (v 1 ≐ v 2 ⊕ v 3) ∷ (v 2 ≐ v 5 ⊕ v 6 ⊕ v 7) ∷ (v 3 ≐ v 6) ∷
          (v 4 ≐ v 7) ∷ []) tt
          (c.join-2.ensures, (c.join.ensures, (all, (of_middle, (of_last, tt))))),
      of_middle,
      of_last,
    )

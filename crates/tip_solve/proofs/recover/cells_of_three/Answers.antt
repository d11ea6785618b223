use Rattle.std.proofs.Common.{◌≡◌, ℕ, ◌-◌, ◌<◌, [], ◌∷◌, cond, eqb, get_or, length, ap, ◌∙◌, arith}
use Rattle.tip_code.proofs.Tables.{prime_facts}
use Rattle.tip_algebra.specs.Unfolded.{unfolded}
use Rattle.tip_algebra.proofs.Group.{v, ◌⊕◌, ◌≐◌, solveBy}
use Rattle.tip_algebra.proofs.Lost.{three_plain}
use Rattle.tip_solve.proofs.recover.cells_of_three.Goals as goal

pub returns : goal.returns
returns g c X r enc known rows =
    let m = g.E.Element in
    let s = c.args.sums.now in
    let p = s.prime.number in
    let facts = prime_facts p s.prime.listed in
    let f = c.args.at.first in
    let j = c.args.at.middle in
    let h = c.args.at.last in
    let ordered = c.args.at.ordered in
    let ascending = c.args.at.ascending in
    let below = c.requires.below in
    let o = c.parities_of_three-of_first in
    let all = o.ensures X r enc known rows in
    let a' = c.repeat.new.run in
    let long = s.antidiagonals_long in
    let long₂ : length c.join_at.new.elements ≡ length s.antidiagonals.now = c.join_at.auto.elements in
    let long₃ : length c.join_at-2.new.elements ≡ length s.antidiagonals.now = c.join_at-2.auto.elements ∙ long₂ in
    let sums = three_plain m.laws p facts X enc f j h ordered ascending below s.diagonals.now s.antidiagonals.now r
    c.args.all known s.rows.now rows.rows rows.last o.result.0 o.result.1 o.result.2 all.0 all.1 all.2 a'
    (λ k l. c.repeat.ensures.first k l
    ∙ c.join_at-3.ensures k (omega (arith, long, long₃))
    ∙ ap (λ z. m.join z (cond (eqb k (p - 1 - h)) o.result.2 m.zero))
    (c.join_at-2.ensures k (omega (arith, long, long₂))
    ∙ ap (λ z. m.join z (cond (eqb k (p - 1 - j)) o.result.1 m.zero)) (c.join_at.ensures k (omega (arith, long))))) in
    let U = unfolded m.zero p X in
    let held = c.find_outer.ensures.found (U f) (U j) (U h) sums in
    let outer = c.find_outer.new.sums.rows.now in
    let last = c.find_outer.new.last in
    let first : (i : ℕ) → i < p → get_or c.find_first.new.first i m.zero ≡ U f i =
    λ i l. solveBy m.laws (get_or c.find_first.new.first i m.zero ∷ get_or outer i m.zero ∷ get_or last i m.zero ∷ U f
    i ∷ U h i ∷ [])
    (v 0) (v 3) ((v 0 ≐ v 1 ⊕ v 2) ∷ (v 1 ≐ v 3 ⊕ v 4) ∷ (v 2 ≐ v 4) ∷ []) tt
    (c.find_first.ensures i (omega (arith, c.find_outer.ensures.prime)), (held.2 i l, (held.1 i l, tt))) in
    (c.fold_back.ensures X first all.0, c.fold_back-2.ensures X held.0 all.1, c.fold_back-3.ensures X held.1 all.2)

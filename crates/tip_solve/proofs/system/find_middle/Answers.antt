use Rattle.std.proofs.Common.{◌≡◌, ℕ, ◌+◌, ◌-◌, ◌%◌, ◌<◌, length, get_or, ap, ap₂, ◌∙◌, add-zero, arith}
use Rattle.tip_code.proofs.Tables.{prime_facts}
use Rattle.tip_algebra.proofs.Constants.{from_zero}
use Rattle.tip_algebra.proofs.Cyclic.{twice_at}
use Rattle.tip_algebra.proofs.Middle.{middle_found}
use Rattle.tip_solve.proofs.system.find_middle.Goals as goal

pub returns-clause-found : goal.returns-clause-found
returns-clause-found g c X M Y s i b =
    let m = g.E.Element in
    let sums = c.args.sums.now in
    let p = sums.prime.number in
    let f = c.args.at.first in
    let j = c.args.at.middle in
    let h = c.args.at.last in
    let ordered = c.args.at.ordered in
    let ascending = c.args.at.ascending in
    let below = c.requires.below in
    let r = sums.rows.now in
    let d = sums.diagonals.now in
    let a = sums.antidiagonals.now in
    let z = c.join_from-2.new.sum in
    let w₀ = c.divide.new.quotient in
    let w = c.join_onto.new.elements in
    let y = c.divide-2.new.quotient in
    let long : length w₀ ≡ p = c.divide.auto.quotient ∙ c.requires.sized.1 in
    let joined : (i : ℕ) → i < p → get_or z i m.zero ≡ m.join
    (m.join (m.join (get_or r i m.zero) (get_or r ((i + (p + f - h)) % p) m.zero))
    (get_or d ((i + f) % p) m.zero)) (get_or a ((i + (p - h)) % p) m.zero) =
    λ i l. c.join_from-2.ensures i l
    ∙ ap₂ m.join
    (c.join_from.ensures i l
    ∙ ap₂ m.join
    (c.join_two.ensures i l ∙ ap (λ n. m.join (get_or r n m.zero) (get_or r (i + (p + f - h)) m.zero)) (add-zero i)
    ∙ ap (m.join (get_or r i m.zero)) (twice_at m.zero p r c.requires.twice.0 (i + (p + f - h))
    (omega (arith, ordered, ascending))))
    (twice_at m.zero p d c.requires.twice.1 (i + f) (omega (arith, ordered, ascending))))
    (twice_at m.zero p a c.requires.twice.2 (i + (p - h)) (omega (arith, ordered, ascending))) in
    let held =
    middle_found m.laws p f j h ordered ascending below r d a X M Y s
    (prime_facts p sums.prime.listed) z w₀ w y c.join_first-all.result joined c.divide.ensures
    c.join_first-all.ensures
    (λ k l. c.join_onto.ensures k (omega arith))
    (λ t steps e. from_zero m.laws p (p - 1 - j) y t (c.divide-2.ensures t steps) e) in
    c.repeat.ensures.first i b ∙ held i b

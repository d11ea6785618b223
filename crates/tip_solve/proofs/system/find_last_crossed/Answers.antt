use Rattle.std.proofs.Common.{◌≡◌, ℕ, ◌+◌, ◌-◌, ◌%◌, ◌<◌, get_or, ap, ap₂, ◌∙◌, arith}
use native.Mathlib.Nat.{add-mod-mod}
use Rattle.tip_algebra.proofs.Constants.{from_zero}
use Rattle.tip_algebra.proofs.Cyclic.{twice_at}
use Rattle.tip_algebra.proofs.Pair.{pair_steps}
use Rattle.tip_solve.proofs.system.find_last_crossed.Goals as goal

pub returns : goal.returns
returns g c X Y s =
    let m = g.E.Element in
    let sums = c.args.sums.now in
    let p = sums.prime.number in
    let f = c.args.at.first in
    let h = c.args.at.last in
    let ordered = c.args.at.ordered in
    let below = c.requires.below in
    let d = sums.diagonals.now in
    let a = sums.antidiagonals.now in
    let z = c.join_two.new.joins in
    let on = c.wrapped-diagonal.result in
    let same : on ≡ (p + f + f - h) % p = c.wrapped-diagonal.ensures.value (omega (arith, ordered, below)) in
    let low : on < p = c.wrapped-diagonal.ensures.within (omega (arith, ordered, below)) in
    let diagonal : (i : ℕ) → i < p → get_or d (i + on) m.zero ≡ get_or d ((i + (p + f + f - h)) % p) m.zero =
    λ i l. twice_at m.zero p d c.requires.twice.0 (i + on) (omega (arith, low))
    ∙ ap (λ n. get_or d n m.zero) (ap (λ n. (i + n) % p) same ∙ add-mod-mod i (p + f + f - h) p) in
    let joined : (i : ℕ) → i < p → get_or z i m.zero ≡ m.join (get_or d ((i + (p + f + f - h)) % p) m.zero)
    (get_or a ((i + (p - h)) % p) m.zero) =
    λ i l. c.join_two.ensures i l
    ∙ ap₂ m.join (diagonal i l) (twice_at m.zero p a c.requires.twice.1 (i + (p - h)) (omega (arith, ordered))) in
    from_zero m.laws p (p - 1 - h) c.divide.new.quotient Y
    (c.divide.ensures Y (pair_steps m.laws p f h ordered below d a X Y s z c.wrapped-step.result
    (c.wrapped-step.ensures.value (omega (arith, below))) joined)) s.last_zero

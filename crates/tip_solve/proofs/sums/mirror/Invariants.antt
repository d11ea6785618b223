use Rattle.std.proofs.Common.{◌≡◌, ℕ, ◌-◌, ◌<◌, get_or}
use Rattle.tip_solve.proofs.sums.mirror.Given as goal

abbrev pub invariant-loop-i : goal.invariant-loop-i
invariant-loop-i g l =
    let m = g.E.Element in
    (k : ℕ) → k < l.i → get_or l.folded k m.zero ≡ m.join (get_or l.run k m.zero) (get_or l.other (l.p - 2 - k) m.zero)

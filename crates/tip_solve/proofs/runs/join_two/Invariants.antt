use Rattle.std.proofs.Common.{◌≡◌, ℕ, ◌+◌, ◌<◌, get_or}
use Rattle.tip_solve.proofs.runs.join_two.Given as goal

abbrev pub invariant-loop-i : goal.invariant-loop-i
invariant-loop-i g l =
    let m = g.E.Element in
    (k : ℕ) → k < l.i → get_or l.joins k m.zero ≡ m.join (get_or l.one (k + l.from) m.zero)
    (get_or l.other (k + l.on) m.zero)

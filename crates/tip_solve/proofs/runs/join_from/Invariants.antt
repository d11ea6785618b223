use Rattle.std.proofs.Common.{◌≡◌, ℕ, ◌+◌, ◌<◌, ◌≤◌, get_or}
use Rattle.tip_solve.proofs.runs.join_from.Given as goal

abbrev pub invariant-loop-i : goal.invariant-loop-i
invariant-loop-i g l =
    let m = g.E.Element in
    ((k : ℕ) → k < l.i → get_or l.sum k m.zero ≡ m.join (get_or l.initial.sum k m.zero)
    (get_or l.column (k + l.from) m.zero))
    × ((k : ℕ) → l.i ≤ k → get_or l.sum k m.zero ≡ get_or l.initial.sum k m.zero)

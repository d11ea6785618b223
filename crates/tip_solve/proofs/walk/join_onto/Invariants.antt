use Rattle.std.proofs.Common.{◌≡◌, ℕ, ◌<◌, ◌≤◌, get_or}
use Rattle.tip_solve.proofs.walk.join_onto.Given as goal

abbrev pub invariant-loop-element : goal.invariant-loop-element
invariant-loop-element g l =
    let m = g.E.Element in
    ((k : ℕ) → k < l.element-index → get_or l.elements k m.zero ≡ m.join (get_or l.initial.elements k m.zero) l.by)
    × ((k : ℕ) → l.element-index ≤ k → get_or l.elements k m.zero ≡ get_or l.initial.elements k m.zero)

use Rattle.std.proofs.Common.{◌≡◌, ℕ, ◌<◌, ◌≤◌, get_or}
use Rattle.tip_element.proofs.slices.join_each.Given as goal

abbrev pub invariant-loop-i : goal.invariant-loop-i
invariant-loop-i g l =
    let m = g.E.Element in
    ((k : ℕ) → k < l.i → get_or l.elements k m.zero ≡ m.join (get_or l.initial.elements k m.zero) (get_or l.others k m.zero))
    × ((k : ℕ) → l.i ≤ k → get_or l.elements k m.zero ≡ get_or l.initial.elements k m.zero)

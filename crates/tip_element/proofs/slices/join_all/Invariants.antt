use Rattle.std.proofs.Common.{◌≡◌, ◌≤◌, length, get_or}
use Rattle.tip_element.specs.Counts.{join_below}
use Rattle.tip_element.proofs.slices.join_all.Given as goal

abbrev pub invariant-loop-element : goal.invariant-loop-element
invariant-loop-element g l =
    let m = g.E.Element in
    (l.element-index ≤ length l.elements) × (l.all ≡ join_below m.zero m.join l.element-index (λ i. get_or l.elements i m.zero))

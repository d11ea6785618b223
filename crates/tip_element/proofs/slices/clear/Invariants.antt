use Rattle.std.proofs.Common.{◌≡◌, ℕ, ◌<◌, slice_index_or}
use Rattle.tip_element.proofs.slices.clear.Given as goal

abbrev pub invariant-loop-element : goal.invariant-loop-element
invariant-loop-element g l =
    let none = g.E.Element.zero in
    (k : ℕ) → k < l.element-index → slice_index_or l.elements k none ≡ none

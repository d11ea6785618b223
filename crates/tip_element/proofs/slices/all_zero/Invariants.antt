use Rattle.std.proofs.Common.{◌≡◌, ℕ, ◌<◌, get_or}
use Rattle.tip_element.proofs.slices.all_zero.Given as goal

abbrev pub invariant-loop-element : goal.invariant-loop-element
invariant-loop-element g l = (k : ℕ) → k < l.element-index → get_or l.elements k g.E.Element.zero ≡ g.E.Element.zero

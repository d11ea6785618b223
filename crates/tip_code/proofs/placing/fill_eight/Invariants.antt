use Rattle.std.proofs.Common.{ℕ, ◌-◌, min, slice_index_or}
use Rattle.tip_code.specs.Joining.{Placed}
use Rattle.tip_code.specs.Stripe.{cell_index, stripe_of}
use Rattle.tip_code.proofs.placing.fill_eight.Given as goal

abbrev pub invariant-loop-row : goal.invariant-loop-row
invariant-loop-row g l =
    let none = g.E.Element.zero in
    let p = l.prime.number in
    let f = λ (n : ℕ). slice_index_or l.values n none in
    Placed p f (cell_index p (min l.from (p - 1)) l.column) (stripe_of none p l.initial.cells)
    → Placed p f (cell_index p l.row l.column) (stripe_of none p l.cells)

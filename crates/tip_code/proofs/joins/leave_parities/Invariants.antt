use Rattle.std.proofs.Common.{◌≡◌, ℕ, ◌-◌, ◌<◌, ◌≤◌, slice_index_or}
use Rattle.tip_element.specs.Counts.{join_below}
use Rattle.tip_code.specs.Joining.{LinesJoined}
use Rattle.tip_code.specs.Stripe.{stripe_of}
use Rattle.tip_code.specs.declared.chain.Direction.TheVariants.{Row}
use Rattle.tip_code.proofs.joins.leave_parities.Given as goal

abbrev pub invariant-loop-row : goal.invariant-loop-row
invariant-loop-row g l =
    let m = g.E.Element in
    let p = l.prime.number in
    let at = stripe_of m.zero p l.cells in
    LinesJoined m.zero m.join p at Row l.row l.joins
    × ((i : ℕ) → l.row ≤ i → i < p - 1 → slice_index_or l.joins i m.zero ≡ join_below m.zero m.join p (at i))

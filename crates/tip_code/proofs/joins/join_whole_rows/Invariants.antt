use Rattle.std.proofs.Common.{◌≡◌, ℕ, ◌<◌, slice_index_or}
use Rattle.tip_element.specs.Counts.{join_below}
use Rattle.tip_code.specs.Stripe.{stripe_of}
use Rattle.tip_code.proofs.joins.join_whole_rows.Given as goal

abbrev pub invariant-loop-row : goal.invariant-loop-row
invariant-loop-row g l =
    let m = g.E.Element in
    let p = l.prime.number in
    (i : ℕ) → i < l.row → slice_index_or l.joins i m.zero ≡ join_below m.zero m.join p (stripe_of m.zero p l.cells i)

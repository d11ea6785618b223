use Rattle.std.proofs.Common.{◌≡◌, ℕ, ◌-◌, ◌<◌, ◌≤◌, slice_index_or}
use Rattle.tip_code.specs.Encoding.{chain_join, line_join}
use Rattle.tip_code.specs.Stripe.{stripe_of}
use Rattle.tip_code.proofs.joins.join_chains.Given as goal

abbrev pub invariant-loop-line : goal.invariant-loop-line
invariant-loop-line g l =
    let m = g.E.Element in
    let P = g.row.P in
    let at = stripe_of m.zero P l.cells in
    ((i : ℕ) → i < l.line → slice_index_or l.joins i m.zero ≡ chain_join m.zero m.join P at l.direction i)
    × ((i : ℕ) → l.line ≤ i → i < P - 1 → slice_index_or l.joins i m.zero ≡ line_join m.zero m.join P at l.direction i)

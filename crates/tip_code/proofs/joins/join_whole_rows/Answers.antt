use Rattle.std.proofs.Common.{ℕ, ◌∙◌, arith}
use Rattle.tip_element.specs.Counts.{join_below}
use Rattle.tip_code.specs.Stripe.{stripe_of}
use Rattle.tip_code.proofs.Steps.{stored_more, row_whole}
use Rattle.tip_code.proofs.joins.join_whole_rows.Goals as goal

pub loop-row-preserved : goal.loop-row-preserved
loop-row-preserved g c =
    let m = g.E.Element in
    let p = c.args.prime.number in
    let row = c.loop-row.row in
    let at = stripe_of m.zero p c.args.cells.now in
    let all = row_whole m.zero m.join p at row 32 (omega (arith, c.args.prime.high)) in
    stored_more m.zero (λ (i : ℕ). join_below m.zero m.join p (at i)) row c.loop-row.joins
    c.row_eight-all-in-loop-row-3.result (omega arith) (c.row_eight-all-in-loop-row-3.ensures ∙ all)
    c.loop-row.invariant

use Rattle.std.proofs.Common.{◌≡◌, ◌-◌, length, get_or-set_other, ap, ◌∙◌, arith}
use Rattle.std.proofs.lemmas.List.{get_or_read}
use Rattle.tip_element.specs.Counts.{join_below}
use Rattle.tip_code.specs.Encoding.{line_join}
use Rattle.tip_code.specs.Stripe.{stripe_of}
use Rattle.tip_code.specs.declared.chain.Direction.TheVariants.{Row}
use Rattle.tip_code.proofs.Rows.{row_is}
use Rattle.tip_code.proofs.Steps.{joined_more}
use Rattle.tip_code.proofs.joins.leave_parities.Goals as goal

pub loop-row-preserved : goal.loop-row-preserved
loop-row-preserved g c =
    let m = g.E.Element in
    let p = c.args.prime.number in
    let row = c.loop-row.row in
    let xs = c.args.cells.now in
    let at = stripe_of m.zero p xs in
    let ys = c.loop-row.joins in
    let v = c.join-in-loop-row.result in
    let len : length ys ≡ p - 1 = omega arith in
    let old : c.index-joins-row.result ≡ join_below m.zero m.join p (at row) =
    get_or_read ys row c.index-joins-row.result (omega arith) c.index-joins-row.is m.zero
    ∙ c.loop-row.invariant.1 row (omega arith) (omega arith) in
    let x = c.element_of-diagonal.result in
    let y = c.element_of-antidiagonal.result in
    let joined : v ≡ line_join m.zero m.join p at Row row = c.join-in-loop-row.ensures
    ∙ ap (λ z. m.join z y) (c.join.ensures ∙ ap (λ z. m.join z x) old ∙ ap (m.join _) c.element_of-diagonal.ensures)
    ∙ ap (m.join _) c.element_of-antidiagonal.ensures
    ∙ row_is g.E.Element.laws p c.args.prime.listed at row (omega arith) in (
      joined_more m.zero m.join p at Row row ys v len (omega arith) joined c.loop-row.invariant.0,
      λ i l h. get_or-set_other ys row i v m.zero (λ e. omega (arith, e, l)) ∙ c.loop-row.invariant.1 i (omega arith) h,
    )

use Rattle.std.proofs.Common.{◌≡◌, ℕ, ◌+◌, ◌<◌, length, slice_index_or, slice_set, sym, ap, ◌∙◌, subst, arith}
use Rattle.std.proofs.lemmas.List.{get_or_read}
use Rattle.tip_code.specs.Places.{place_number}
use Rattle.tip_code.specs.Joining.{Placed}
use Rattle.tip_code.specs.Stripe.{cell_index, stripe_of}
use Rattle.tip_code.proofs.Steps.{cell_held, cell_skipped}
use Rattle.tip_code.proofs.placing.fill_cell.Goals as goal

pub returns-then-is_data : goal.returns-then-is_data
returns-then-is_data g c =
    let m = g.E.Element in
    let p = c.args.prime.number in
    let r = c.args.cell.row in
    let s = c.args.cell.column in
    let xs = c.args.cells.now in
    let values = c.args.values.now in
    let v = c.index-values-place_of.result in
    let k = c.place_of.result in
    let f = λ (n : ℕ). slice_index_or values n m.zero in
    let low : k < length values = omega (arith, c.place_of.ensures.within, c.requires.full) in
    let here : v ≡ slice_index_or values (place_number p r s) m.zero =
    get_or_read values k v low c.index-values-place_of.is m.zero ∙ ap f c.place_of.ensures.value in
    subst (λ (n : ℕ). Placed p f (cell_index p r s) (stripe_of m.zero p xs)
    → Placed p f (cell_index p (r + 1) s) (stripe_of m.zero p (slice_set xs n v))) (sym c.index_of.ensures.value)
    (cell_held m.zero p f r s xs v c.requires.sized (sym c.is_data.ensures ∙ c.if-is_data.true) here)

pub returns-else-is_data : goal.returns-else-is_data
returns-else-is_data g c =
    let m = g.E.Element in
    let p = c.args.prime.number in
    cell_skipped m.zero p (λ n. slice_index_or c.args.values.now n m.zero) c.args.cell.row c.args.cell.column
    (stripe_of m.zero p c.args.cells.now) c.requires.cell.0 (sym c.is_data.ensures ∙ c.if-is_data.false)

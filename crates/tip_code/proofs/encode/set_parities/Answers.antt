use Rattle.std.proofs.Common.{◌≡◌, ℕ, ◌+◌, ◌-◌, ◌*◌, ◌<◌, List, ◌++◌, length, length-append, set, sym, ap, ◌∙◌, subst, arith}
use Rattle.std.proofs.lemmas.List.{get_or_read}
use Rattle.tip_code.specs.Geometry.{cells_in}
use Rattle.tip_code.specs.Stripe.{cell_index, stripe_of, parity_column}
use Rattle.tip_code.specs.Joining.{Filled}
use Rattle.tip_code.proofs.Cells.{index_within}
use Rattle.tip_code.proofs.Filling.{Copied, copied_more, filled_by}
use Rattle.tip_code.proofs.encode.set_parities.Goals as goal

pub loop-line-preserved : goal.loop-line-preserved
loop-line-preserved g c =
    let m = g.E.Element in
    let P = g.row.P in
    let d = c.args.direction in
    let line = c.loop-line.line in
    let p = c.known-prime.result.number in
    let same = c.known-prime.ensures in
    let xs = c.loop-line.cells in
    let front = c.split_at_mut-data.result.0.now in
    let rows = c.split_at_mut-data.result.1.now in
    let joins = c.join_lines.new.joins in
    let X = stripe_of m.zero P (front ++ joins) in
    let v = c.index-cells-line.result in
    let sized : length xs ≡ cells_in P = c.loop-line.auto.cells ∙ length-append front joins
    ∙ ap (λ n. length front + n) c.join_lines.auto.joins ∙ sym (length-append front rows)
    ∙ sym (ap length c.split_at_mut-data.ensures.value) ∙ c.requires.sized in
    let within : P * (P - 1) + line < length xs = omega (arith, sized, index_within P line P) in
    let is : v ≡ stripe_of m.zero P xs line P =
    get_or_read xs (P * (P - 1) + line) v within c.index-cells-line.is m.zero in
    let to : cell_index P line (parity_column P d line) ≡ c.index_of.result =
    sym (c.index_of.ensures.value ∙ ap (λ s. cell_index p s.row s.column) c.parity_cell.ensures.value
    ∙ ap (λ q. cell_index q line (parity_column q d line)) same) in
    subst (λ (n : ℕ). Copied P d (line + 1) X (stripe_of m.zero P (set xs n v))) to
    (copied_more m.zero m.join P d line X xs v sized (omega arith) is c.loop-line.invariant)

pub returns : goal.returns
returns g c =
    let m = g.E.Element in
    let P = g.row.P in
    let xs = c.split_at_mut-data.result.0.now in
    let zs = c.split_at_mut-data.result.1.now in
    let d = c.args.direction in
    let Y = stripe_of m.zero P c.loop-line.cells in
    let all : c.loop-line.line ≡ P - 1 = omega arith in
    let copied = subst (λ (n : ℕ). Copied P d n (stripe_of m.zero P (xs ++ c.join_lines.new.joins)) Y) all
    c.loop-line.invariant in
    subst (λ (ws : List g.row.E.Denot). Filled m.zero m.join P d (stripe_of m.zero P ws) Y)
    (sym c.split_at_mut-data.ensures.value)
    (filled_by m.zero m.join P d xs c.join_lines.new.joins zs Y c.split_at_mut-data.ensures.front_len
    (λ i h. c.join_lines.ensures i h h) copied)

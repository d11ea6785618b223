use Rattle.std.proofs.Common.{◌≡◌, ◌+◌, ◌&&◌, ap, ◌∙◌, arith}
use Rattle.tip_element.specs.Counts.{count_below}
use Rattle.tip_columns.specs.Sets.{in_set}
use Rattle.tip_shelf.specs.Calls.{is_held}
use Rattle.tip_array.proofs.rebuild.count_held.Goals as goal

pub returns-clause-value : goal.returns-clause-value
returns-clause-value g c =
    let v = g.S.Shelf.meaning c.args.shelf.now in
    let end : c.loop-column.column ≡ v.prime + 1 = omega (arith, c.loop-column-test.false, c.loop-column.auto.column-end, c.columns_of-column-end.ensures.value) in
    c.loop-column.invariant.count ∙ ap (λ n. count_below n (λ k. in_set c.args.set k && is_held (v.strip c.args.stripe k))) end

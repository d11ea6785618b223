use Rattle.std.proofs.Common.{◌≡◌, ◌+◌, ◌&&◌, ◌==◌, nat_lt, sym, ap, ◌∙◌, arith}
use Rattle.tip_array.proofs.Zeroing.{part-then, part_along, next_column, column_apart}
use Rattle.tip_array.proofs.format.zero_stripe.Goals as goal

pub loop-column-preserved : goal.loop-column-preserved
loop-column-preserved g c =
    let l = c.loop-column in
    let i = c.args.stripe in
    let p = (g.S.Shelf.meaning c.args.shelf.now).prime in
    record {
      zeroed = part-then (λ j k. j == i && nat_lt k l.column) (λ j k. j == i && k == l.column) (λ j k. j == i && nat_lt k (l.column + 1)) (column_apart i l.column) (next_column i l.column) l.invariant.zeroed c.zero_strip.ensures.zeroed;
      lent = c.zero_strip.ensures.lent ∙ l.invariant.lent;
    }

pub returns-clause-zeroed : goal.returns-clause-zeroed
returns-clause-zeroed g c =
    let l = c.loop-column in
    let p = (g.S.Shelf.meaning c.args.shelf.now).prime in
    let end : l.column ≡ p + 1 = omega (arith, c.loop-column-test.false, l.auto.column-end, c.columns_of-column-end.ensures.value) in
    part_along (λ j k. j == c.args.stripe && nat_lt k l.column) (λ j k. j == c.args.stripe && nat_lt k (p + 1)) (λ j k. ap (λ n. j == c.args.stripe && nat_lt k n) (sym end)) l.invariant.zeroed

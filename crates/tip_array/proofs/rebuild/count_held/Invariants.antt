use Rattle.std.proofs.Common.{◌≡◌, ◌≤◌, ◌&&◌}
use Rattle.tip_element.specs.Counts.{count_below}
use Rattle.tip_columns.specs.Sets.{in_set}
use Rattle.tip_shelf.specs.Calls.{Same, is_held}
use Rattle.tip_array.proofs.rebuild.count_held.Given as goal

abbrev pub invariant-loop-column : goal.invariant-loop-column
invariant-loop-column g l =
    let m = g.S.Shelf in
    record {
      same : Same (m.meaning l.fn.shelf) (m.meaning l.shelf);
      count : l.count ≡ count_below l.column (λ c. in_set l.set c && is_held ((m.meaning l.fn.shelf).strip l.stripe c));
      low : l.count ≤ l.column;
      lent : m.lent l.shelf ≡ m.lent l.fn.shelf;
    }

use Rattle.std.proofs.Common.{◌≡◌, ◌+◌, ◌*◌, ◌≤◌}
use Rattle.tip_element.specs.Counts.{join_below}
use Rattle.tip_shelf.specs.Calls.{Same}
use Rattle.tip_gather.specs.Gathering.{outs}
use Rattle.tip_array.proofs.format.count_all_out.Given as goal

abbrev pub invariant-loop-stripe : goal.invariant-loop-stripe
invariant-loop-stripe g l =
    let m = g.S.Shelf in
    record {
      same : Same (m.meaning l.fn.shelf) (m.meaning l.shelf);
      count : l.count ≡ join_below 0 ◌+◌ l.stripe (outs (m.meaning l.fn.shelf));
      low : l.count ≤ 32 * l.stripe;
      lent : m.lent l.shelf ≡ m.lent l.fn.shelf;
    }

use Rattle.std.proofs.Common.{◌≡◌}
use Rattle.tip_shelf.specs.Calls.{is_blank}
use Rattle.tip_gather.specs.Gathering.{Picked}
use Rattle.tip_shelf.specs.Performing.{Performed, AtMost}
use Rattle.tip_gather.specs.Looking.{AsksState}
use Rattle.tip_gather.proofs.columns.columns_blank.Given as goal

abbrev pub invariant-loop-column : goal.invariant-loop-column
invariant-loop-column g l =
    let m = g.S.Shelf in
    record {
      picked : Picked is_blank (m.meaning l.fn.shelf) (m.meaning l.shelf) l.stripe l.column l.blank;
      calls : AtMost l.column (AsksState l.stripe) (Performed m.meaning m.performs) l.fn.shelf l.shelf;
      lent : m.lent l.shelf ≡ m.lent l.fn.shelf;
    }

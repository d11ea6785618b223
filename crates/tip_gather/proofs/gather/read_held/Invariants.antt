use Rattle.std.proofs.Common.{◌≡◌, ◌*◌}
use Rattle.tip_gather.specs.Gathering.{StripsRead}
use Rattle.tip_shelf.specs.Performing.{Performed, AtMost}
use Rattle.tip_gather.specs.Looking.{AsksOrGets}
use Rattle.tip_gather.proofs.gather.read_held.Given as goal

abbrev pub invariant-loop-column : goal.invariant-loop-column
invariant-loop-column g l =
    let m = g.S.Shelf in
    record {
      read : StripsRead g.S.Element.Element.zero (m.meaning l.fn.shelf) (m.meaning l.shelf) l.stripe l.column l.cells;
      calls :
          AtMost (l.column * (m.meaning l.fn.shelf).prime) (AsksOrGets l.stripe)
          (Performed m.meaning m.performs)
          l.fn.shelf
          l.shelf;
      lent : m.lent l.shelf ≡ m.lent l.fn.shelf;
    }

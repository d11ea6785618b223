use Rattle.std.proofs.Common.{◌≡◌}
use Rattle.tip_gather.specs.Gathering.{StripRead}
use Rattle.tip_shelf.specs.Performing.{Performed, AtMost}
use Rattle.tip_gather.specs.Looking.{AsksOrGets}
use Rattle.tip_gather.proofs.gather.read_strip.Given as goal

abbrev pub invariant-loop-row : goal.invariant-loop-row
invariant-loop-row g l =
    let m = g.S.Shelf in
    record {
      read : StripRead g.S.Element.Element.zero (m.meaning l.fn.shelf) (m.meaning l.shelf) l.stripe l.column l.row l.fn.cells l.cells;
      calls : AtMost l.row (AsksOrGets l.stripe) (Performed m.meaning m.performs) l.fn.shelf l.shelf;
      lent : m.lent l.shelf ≡ m.lent l.fn.shelf;
    }

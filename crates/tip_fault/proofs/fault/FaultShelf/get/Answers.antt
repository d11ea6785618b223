use Rattle.std.proofs.Common.{rules}
use Rattle.tip_fault.proofs.Acts.{lost_pulls, got_lost}
use Rattle.tip_fault.proofs.fault.FaultShelf.get.Goals as goal

pub returns-clause-act : goal.returns-clause-act
returns-clause-act g c =
    let lost = lost_pulls g.S.Shelf.meaning g.S.Shelf.performs _ _ _ c.begin_access.ensures.calls in
    got_lost lost _ _ _ _ (c.has_cell.ensures.sound (search rules)) c.get.ensures.act

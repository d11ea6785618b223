use Rattle.std.proofs.Common.{rules}
use Rattle.tip_fault.proofs.Acts.{lost_pulls, restored_lost}
use Rattle.tip_fault.proofs.fault.FaultShelf.restore.Goals as goal

pub returns-clause-act : goal.returns-clause-act
returns-clause-act g c =
    let lost = lost_pulls g.S.Shelf.meaning g.S.Shelf.performs _ _ _ c.begin_access.ensures.calls in
    restored_lost lost _ _ _ _ (c.loads.ensures.sound (search rules)) c.restore.ensures.act

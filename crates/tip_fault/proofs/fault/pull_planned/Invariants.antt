use Rattle.std.proofs.Common.{◌≡◌, take}
use Rattle.tip_fault.specs.Faults.{pulls_for}
use Rattle.tip_fault.proofs.fault.pull_planned.Given as goal
use Rattle.tip_shelf.specs.Performing.{Performed, Series}

abbrev pub invariant-loop-loss : goal.invariant-loop-loss
invariant-loop-loss g l =
    record {
      calls :
          Series (Performed g.S.Shelf.meaning g.S.Shelf.performs) l.initial.below
          (pulls_for l.access (take l.loss-index l.planned))
          l.below;
      lent : g.S.Shelf.lent l.below ≡ g.S.Shelf.lent l.initial.below;
    }

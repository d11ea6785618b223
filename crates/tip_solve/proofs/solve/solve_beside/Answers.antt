use Rattle.tip_solve.proofs.Stopping.{stopped_few}
use Rattle.tip_solve.proofs.solve.solve_beside.Goals as goal

pub returns-clause-stop : goal.returns-clause-stop
returns-clause-stop g c = stopped_few _ _ _ _ _ _ _ c.recover_few.result (rw c.room_len.ensures at c.in_ok-fitting.ensures) c.recover_few.ensures

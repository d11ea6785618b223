use Rattle.tip_array.proofs.Updating.{write_step}
use Rattle.tip_array.proofs.array.Array.write.Goals as goal

pub returns-clause-step : goal.returns-clause-step
returns-clause-step g c =
    write_step c.write_cell-answer.result (g.met.S.Shelf.sound c.args.self.now.shelf).prime c.in_ok-cell.ensures.0 c.in_ok-cell.ensures.1 c.write_cell-answer.ensures.put

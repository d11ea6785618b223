use Rattle.tip_array.proofs.Finding.{read_step}
use Rattle.tip_array.proofs.array.Array.read.Goals as goal

pub returns-clause-step : goal.returns-clause-step
returns-clause-step g c =
    read_step c.find_element-answer.result (g.met.S.Shelf.sound c.args.self.now.shelf).prime c.in_ok-cell.ensures.0 c.in_ok-cell.ensures.1 c.find_element-answer.ensures.fared c.find_element-answer.ensures.found

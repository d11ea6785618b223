use Rattle.std.proofs.Common.{rules}
use Rattle.tip_solve.specs.Solving.{cells_length, too_short, no_column}
use Rattle.tip_solve.proofs.Stopping.{first_stop}
use Rattle.tip_solve.proofs.solve.fitting.Goals as goal

pub returns-then-cells : goal.returns-then-cells
returns-then-cells c = (first_stop _ _ _ _ _ _ (search (rules, cells_length)) (search rules) (search rules) (search rules) (search rules), search rules)

pub returns-then-room-least : goal.returns-then-room-least
returns-then-room-least c = (first_stop _ _ _ _ _ _ (search (rules, too_short)) (search rules) (search rules) (search rules) (search rules), search rules)

pub returns-then-not-within : goal.returns-then-not-within
returns-then-not-within c = (first_stop _ _ _ _ _ _ (search (rules, no_column)) (search rules) (search rules) (search rules) (search rules), search rules)

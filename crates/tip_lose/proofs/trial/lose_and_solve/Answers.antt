use Rattle.std.proofs.Common.{rules}
use Rattle.tip_code.proofs.Sizes.{valid, facts}
use Rattle.tip_lose.proofs.Losing.{back, choice_none}
use Rattle.tip_lose.proofs.trial.lose_and_solve.Goals as goal

pub returns-clause-stop : goal.returns-clause-stop
returns-clause-stop c = choice_none _ _ _ _ _ (search rules) (search rules) (valid c.args.geometry) c.in_ok-solve.ensures.stop

pub returns-clause-back : goal.returns-clause-back
returns-clause-back c = back _ c.args.lost _ c.lose.new.cells _ c.requires c.lose.ensures c.in_ok-solve.ensures.cells (search rules) (facts c.args.geometry).low

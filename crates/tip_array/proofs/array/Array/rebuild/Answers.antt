use Rattle.tip_array.proofs.Filling.{rebuild_step}
use Rattle.tip_array.proofs.array.Array.rebuild.Goals as goal

pub returns-clause-step : goal.returns-clause-step
returns-clause-step g c = rebuild_step _ _ _ c.rebuild_stripe-answer.result c.in_ok-allowed.ensures.0 c.in_ok-allowed.ensures.1 c.rebuild_stripe-answer.ensures.made

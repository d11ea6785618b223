use Rattle.std.proofs.Common.{arith, rules}
use Rattle.tip_lose.proofs.Refusals.{listed_of, choice_column, choice_many}
use Rattle.tip_lose.proofs.request.chosen.Goals as goal

pub returns-then-not-all_within-clause-stop : goal.returns-then-not-all_within-clause-stop
returns-then-not-all_within-clause-stop c = choice_column _ _ (search (rules, listed_of)) (grind (arith, c.all_within.ensures.above))

pub returns-then-not-is_few-clause-stop : goal.returns-then-not-is_few-clause-stop
returns-then-not-is_few-clause-stop c = choice_many _ _ (search (rules, listed_of)) (grind (arith, c.all_within.ensures.within)) (grind (arith, c.is_few.ensures.many))

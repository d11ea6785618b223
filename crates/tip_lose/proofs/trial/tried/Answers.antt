use Rattle.std.proofs.Common.{◌∙◌, rules}
use Rattle.std.proofs.lemmas.List.{take_at}
use Rattle.std.proofs.lemmas.List.Elements.{same_from_all_zip}
use Rattle.tip_lose.proofs.trial.tried.Goals as goal

-- the copy is what was encoded, and the buffer that it lends ends up at its front
pub returns-clause-whole : goal.returns-clause-whole
returns-clause-whole c =
    (search rules, take_at c.lose_and_solve.new.cells _ c.in_ok-solved.solved.len (search rules) ∙ c.in_ok-lose_and_solve.ensures.back ∙ c.deref_mut.ensures.value ∙ same_from_all_zip _ _ _ c.in_ok-solved.ensures.cases.0 (λ x y e. search rules))

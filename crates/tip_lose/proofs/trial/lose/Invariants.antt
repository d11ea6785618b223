use Rattle.tip_code.specs.Geometry.{prime_of}
use Rattle.tip_code.specs.Stripe.{stripe_of}
use Rattle.tip_columns.specs.Sets.{in_set}
use Rattle.tip_element.specs.Words.{no_word}
use Rattle.tip_solve.specs.Solving.{Agree}
use Rattle.tip_lose.proofs.trial.lose.Given as goal

-- the kept columns are as they were
abbrev pub invariant-loop-index : goal.invariant-loop-index
invariant-loop-index l = let p = prime_of l.fn.geometry in Agree p (in_set l.lost) (stripe_of no_word p l.cells) (stripe_of no_word p l.initial.cells)

use Rattle.tip_examples.proofs.Examples.{worked}
use Rattle.tip_examples.proofs.worked_examples.Goals as goal

pub returns : goal.returns
returns c = worked

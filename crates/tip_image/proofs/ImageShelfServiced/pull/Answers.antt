use Rattle.std.proofs.Common.{rules}
use Rattle.tip_image.proofs.Serving.{image_pulled}
use Rattle.tip_image.proofs.ImageShelfServiced.pull.Goals as goal

pub returns-clause-act : goal.returns-clause-act
returns-clause-act c = search (rules, image_pulled)

use Rattle.std.proofs.Common.{rules}
use Rattle.tip_image.proofs.Serving.{image_fitted}
use Rattle.tip_image.proofs.ImageShelfServiced.fit.Goals as goal

pub returns-clause-act : goal.returns-clause-act
returns-clause-act c = search (rules, image_fitted)

use Rattle.std.proofs.Common.{rules}
use Rattle.tip_image.proofs.Calling.{image_put}
use Rattle.tip_image.proofs.ImageShelfShelf.put.Goals as goal

pub returns-clause-act : goal.returns-clause-act
returns-clause-act c = image_put c.args.self.now c.args.stripe c.args.column _ c.args.row c.in-Some.index c.args.element _ (search rules) (search rules) (search rules)

use Rattle.std.proofs.Common.{rules, arith}
use Rattle.tip_image.proofs.Calling.{image_erased}
use Rattle.tip_image.proofs.ImageShelfShelf.erase.Goals as goal

pub returns-clause-act : goal.returns-clause-act
returns-clause-act c = image_erased c.args.self.now c.args.stripe c.args.column c.in-Some.spot (search rules) (search rules) _ _ (λ gone. grind (arith, gone, c.state_of.ensures)) (search rules)

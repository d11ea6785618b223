use Rattle.std.proofs.Common.{rules}
use Rattle.tip_image.proofs.Calling.{image_restored}
use Rattle.tip_image.proofs.ImageShelfShelf.restore.Goals as goal

pub returns-clause-act : goal.returns-clause-act
returns-clause-act c = image_restored c.args.self.now c.args.stripe c.args.column c.in-Some.spot (search rules) (search rules) _ c.args.elements.now c.advance.new.bytes c.write_words.new.bytes (search rules) c.write_words.ensures.small (search rules) (search rules) (search rules)

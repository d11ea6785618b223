use Rattle.std.proofs.Common.{rules}
use Rattle.tip_rotated.proofs.Rotating.{got_rotated}
use Rattle.tip_rotated.proofs.RotatedShelf.get.Goals as goal

pub returns-clause-act : goal.returns-clause-act
returns-clause-act g c = got_rotated (search rules) (search rules) c.get.ensures.act

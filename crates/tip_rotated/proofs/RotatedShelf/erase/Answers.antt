use Rattle.std.proofs.Common.{rules}
use Rattle.tip_rotated.proofs.Rotating.{erased_rotated}
use Rattle.tip_rotated.proofs.RotatedShelf.erase.Goals as goal

pub returns-clause-act : goal.returns-clause-act
returns-clause-act g c = erased_rotated (search rules) (search rules) c.erase.ensures.act

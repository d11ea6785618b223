use Rattle.std.proofs.Common.{rules}
use Rattle.tip_rotated.proofs.Rotating.{restored_rotated}
use Rattle.tip_rotated.proofs.RotatedShelf.restore.Goals as goal

pub returns-clause-act : goal.returns-clause-act
returns-clause-act g c = restored_rotated (search rules) (search rules) c.restore.ensures.act

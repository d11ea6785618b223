use Rattle.std.proofs.Common.{rules}
use Rattle.tip_rotated.proofs.Rotating.{put_rotated}
use Rattle.tip_rotated.proofs.RotatedShelf.put.Goals as goal

pub returns-clause-act : goal.returns-clause-act
returns-clause-act g c = put_rotated (search rules) (search rules) c.put.ensures.act

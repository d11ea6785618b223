use Rattle.std.proofs.Common.{rules}
use Rattle.tip_lent.proofs.Holding.{image_holds}
use Rattle.tip_lent.proofs.exchange_in_image.Goals as goal

pub returns-clause-bytes : goal.returns-clause-bytes
returns-clause-bytes c = image_holds c.args.geometry c.args.bytes.now _ (λ k. search rules) c.args.stripe c.args.column c.args.row c.args.word _ (search rules)

use Rattle.std.proofs.Common.{rules, arith}
use Rattle.tip_lent.proofs.Holding.{turned_holds}
use Rattle.tip_lent.proofs.exchange_in_turned_image.Goals as goal

pub returns-clause-bytes : goal.returns-clause-bytes
returns-clause-bytes c = turned_holds c.args.geometry c.args.bytes.now _ (λ k. omega (arith, c.type_inv.bytes k)) c.args.stripe c.args.column c.args.row c.args.word _ (search rules)

use Rattle.std.proofs.Common.{◌∙◌, arith}
use Rattle.tip_code.proofs.Tables.{prime_facts}
use Rattle.tip_gather.proofs.Picking.{picked_outs, outs_most}
use Rattle.tip_gather.proofs.columns.count_out.Goals as goal

pub returns-clause-value : goal.returns-clause-value
returns-clause-value g c = c.count.ensures ∙ picked_outs _ _ _ (prime_facts _ (g.met.S.Shelf.sound c.args.shelf.now).prime).high c.columns_out.ensures.picked

pub returns-clause-most : goal.returns-clause-most
returns-clause-most g c =
    let high = (prime_facts _ (g.met.S.Shelf.sound c.args.shelf.now).prime).high in
    omega (arith, c.count.ensures, picked_outs _ _ _ high c.columns_out.ensures.picked, outs_most (g.S.Shelf.meaning c.args.shelf.now) c.args.stripe high)

use Rattle.tip_array.proofs.Updating.{update_set}
use Rattle.tip_array.proofs.write.put_cell.Goals as goal

pub returns-clause-updated : goal.returns-clause-updated
returns-clause-updated g c old has =
    update_set c.requires g.S.Element.Element.laws c.put.result (λ es is. (g.met.S.Shelf.sound c.args.shelf.now).sized _ _ es is) c.put.ensures.act has

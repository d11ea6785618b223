use Rattle.tip_shelf.specs.Performing.{Performed}
use Rattle.tip_gather.proofs.Counting.{one_state}
use Rattle.tip_gather.proofs.columns.is_out.Goals as goal

pub returns-clause-calls : goal.returns-clause-calls
returns-clause-calls g c =
    let e = c.state.ensures in
    one_state (Performed g.S.Shelf.meaning g.S.Shelf.performs) _ _ c.args.stripe c.args.column _
    (record { act = e.act; own = e.performs })

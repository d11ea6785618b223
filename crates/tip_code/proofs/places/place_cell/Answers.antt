use Rattle.tip_code.proofs.Numbers.{place_is}
use Rattle.tip_code.proofs.places.place_cell.Goals as goal

pub returns : goal.returns
returns c =
    let p = c.args.prime in
    place_is p.number p.listed c.args.place c.data_column-column.result c.requires c.data_column-column.ensures

use Rattle.tip_code.specs.declared.chain.Direction.TheVariants.{Row, Diagonal, Antidiagonal}
use Rattle.tip_shelf.proofs.Strips.{kept-then}
use Rattle.tip_array.proofs.Finding.{in_range}
use Rattle.tip_array.proofs.Updating.{all_updated, parity_range}
use Rattle.tip_array.proofs.write.update.Goals as goal

pub put_cell-put-requires : goal.put_cell-put-requires
put_cell-put-requires g c = in_range c.requires.there c.requires.«data»

pub join_into-requires : goal.join_into-requires
join_into-requires g c =
    let h = rw c.geometry.ensures.prime at c.in-Some.ensures in
    let kept = (c.put_cell-put.ensures.updated c.args.old c.requires.old).kept in
    parity_range _ _ Row _ (g.met.S.Shelf.sound c.args.shelf.now).prime kept c.requires.there c.requires.«data» h.by_row

pub join_into-requires-2 : goal.join_into-requires-2
join_into-requires-2 g c =
    let h = rw c.geometry.ensures.prime at c.in-Some.ensures in
    let kept = (c.put_cell-put.ensures.updated c.args.old c.requires.old).kept in
    parity_range _ _ Diagonal _ (g.met.S.Shelf.sound c.args.shelf.now).prime (kept-then kept c.join_into.ensures.updated.kept) c.requires.there c.requires.«data» h.by_diagonal

pub join_into-requires-3 : goal.join_into-requires-3
join_into-requires-3 g c =
    let h = rw c.geometry.ensures.prime at c.in-Some.ensures in
    let kept = (c.put_cell-put.ensures.updated c.args.old c.requires.old).kept in
    parity_range _ _ Antidiagonal _ (g.met.S.Shelf.sound c.args.shelf.now).prime (kept-then kept (kept-then c.join_into.ensures.updated.kept c.join_into-2.ensures.updated.kept)) c.requires.there c.requires.«data» h.by_antidiagonal

pub returns-clause-updated : goal.returns-clause-updated
returns-clause-updated g c =
    let h = rw c.geometry.ensures.prime at c.in-Some.ensures in
    let change = c.join-change.ensures in
    all_updated _ _ _ (g.met.S.Shelf.sound c.args.shelf.now).prime h
    (c.put_cell-put.ensures.updated c.args.old c.requires.old)
    (rw change at c.join_into.ensures.updated) (rw change at c.join_into-2.ensures.updated) (rw change at c.join_into-3.ensures.updated)

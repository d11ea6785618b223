use Rattle.std.proofs.Common.{ℕ, slice_index_or}
use Rattle.tip_code.specs.Stripe.{stripe_of}
use Rattle.tip_code.proofs.Steps.{held_none, held_whole}
use Rattle.tip_code.proofs.Tables.{prime_facts}
use Rattle.tip_code.proofs.placing.fill_all.Goals as goal

pub returns : goal.returns
returns g c =
    let m = g.E.Element in
    let P = g.row.P in
    let f = λ (n : ℕ). slice_index_or c.args.values.now n m.zero in
    held_whole P f 31 (stripe_of m.zero P c.fill_column-31.new.cells) (prime_facts P c.requires.prime).high
    (c.fill_column-31.ensures (c.fill_column-30.ensures (c.fill_column-29.ensures (c.fill_column-28.ensures
    (c.fill_column-27.ensures (c.fill_column-26.ensures (c.fill_column-25.ensures (c.fill_column-24.ensures
    (c.fill_column-23.ensures (c.fill_column-22.ensures (c.fill_column-21.ensures (c.fill_column-20.ensures
    (c.fill_column-19.ensures (c.fill_column-18.ensures (c.fill_column-17.ensures (c.fill_column-16.ensures
    (c.fill_column-15.ensures (c.fill_column-14.ensures (c.fill_column-13.ensures (c.fill_column-12.ensures
    (c.fill_column-11.ensures (c.fill_column-10.ensures (c.fill_column-9.ensures (c.fill_column-8.ensures
    (c.fill_column-7.ensures (c.fill_column-6.ensures (c.fill_column-5.ensures (c.fill_column-4.ensures
    (c.fill_column-3.ensures (c.fill_column-2.ensures (c.fill_column.ensures
    (held_none P f (stripe_of m.zero P c.args.cells.now)))))))))))))))))))))))))))))))))

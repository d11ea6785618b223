use Rattle.std.proofs.Common.{slice_index_or}
use Rattle.tip_code.specs.Stripe.{stripe_of}
use Rattle.tip_code.proofs.Filling.{all_filled}
use Rattle.tip_code.proofs.encode.encode_at.Goals as goal

pub returns : goal.returns
returns g c =
    let m = g.E.Element in
    let P = g.row.P in
    let at = stripe_of m.zero P in
    all_filled m.zero m.join P c.requires.prime (λ n. slice_index_or c.args.values.now n m.zero)
    (at c.fill_all.new.cells) (at c.set_parities.new.cells) (at c.set_parities-2.new.cells)
    (at c.set_parities-3.new.cells) c.fill_all.ensures c.set_parities.ensures c.set_parities-2.ensures
    c.set_parities-3.ensures

use Rattle.std.proofs.Common.{ap, ◌∙◌}
use Rattle.tip_code.proofs.Numbers.{skipped, skip_is, skips_find}
use Rattle.tip_code.proofs.places.data_column.Goals as goal

pub returns : goal.returns
returns c =
    let k = c.args.k in
    let m = c.skip.result in
    let one = skip_is k c.min-first.result m c.skip.ensures.below c.skip.ensures.above in
    let two = skip_is m c.max-second.result c.skip-2.result c.skip-2.ensures.below c.skip-2.ensures.above in
    skips_find c.args.prime.number c.args.prime.listed c.args.row k m c.skip-2.result c.requires.0 c.requires.1
    (one ∙ ap (skipped k) c.min-first.ensures)
    (two ∙ ap (skipped m) c.max-second.ensures)

use Rattle.std.proofs.Common.{rules}
use Rattle.tip_store.proofs.Numbers.{part_within}
use Rattle.tip_store.proofs.layout.Layout.spot_of.Goals as goal

pub returns : goal.returns
returns c = search (rules, part_within)

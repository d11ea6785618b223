use Rattle.std.proofs.Common.{◌∙◌, arith}
use Rattle.tip_element.proofs.Bits.{ones_bits}
use Rattle.tip_columns.specs.Sets.{size}
use Rattle.tip_columns.proofs.Columns.count.Goals as goal

pub returns : goal.returns
unfolding size
returns c = c.ones_of.ensures ∙ ones_bits 64 c.args.self.0 (omega arith)

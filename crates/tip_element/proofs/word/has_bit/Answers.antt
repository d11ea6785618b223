use Rattle.std.proofs.Common.{arith}
use Rattle.std.proofs.lemmas.Bool.Decides.{nat_tests}
use Rattle.tip_element.proofs.Bits.{bit_above}
use Rattle.tip_element.proofs.word.has_bit.Goals as goal

pub returns-else-index-lt64 : goal.returns-else-index-lt64
returns-else-index-lt64 c = grind (arith, nat_tests, bit_above 64 c.args.word c.args.index)

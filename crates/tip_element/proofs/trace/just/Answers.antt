-- The word of a single number is a power of two, which has one bit.
use Rattle.std.proofs.Common.{◌-◌, arith}
use Rattle.std.proofs.lemmas.Nat.{one_shl}
use Rattle.std.proofs.lemmas.Bool.Decides.{nat_tests}
use Rattle.tip_element.proofs.Bits.{bit_zero, bit_power}
use Rattle.tip_element.proofs.trace.just.Goals as goal

pub returns-then-number-lt64 : goal.returns-then-number-lt64
returns-then-number-lt64 c n =
    let k = c.args.number in
    rw (one_shl k 64 c.if-number-lt64.true) (grind (arith, nat_tests, bit_power k n, bit_zero (n - 64)))

pub returns-else-number-lt64 : goal.returns-else-number-lt64
returns-else-number-lt64 c n =
    let k = c.args.number - 64 in
    rw (one_shl k 64 (omega arith)) (grind (arith, nat_tests, bit_power k (n - 64), bit_zero n))

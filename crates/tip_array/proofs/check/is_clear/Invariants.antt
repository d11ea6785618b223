use Rattle.tip_code.specs.Geometry.{prime_of}
use Rattle.tip_array.specs.Checking.{ClearOfBelow}
use Rattle.tip_array.proofs.check.is_clear.Given as goal

abbrev pub invariant-loop-column : goal.invariant-loop-column
invariant-loop-column l = ClearOfBelow (prime_of l.geometry) l.chain.direction l.chain.line l.set l.column

use Rattle.std.proofs.Common.{arith}
use Rattle.tip_code.specs.Primes.{primes}
use Rattle.tip_code.proofs.Tables.{among_none}
use Rattle.tip_code.proofs.geometry.rank_of.Goals as goal

pub returns : goal.returns
returns c = among_none c.args.p primes (λ k h. c.loop-rank.invariant k (omega arith))

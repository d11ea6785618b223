use Rattle.std.proofs.Common.{◌≡◌, ℕ, ◌<◌, get_or}
use Rattle.tip_code.specs.Primes.{primes}
use Rattle.tip_code.proofs.geometry.rank_of.Given as goal

-- no prime of a rank before this one is p
abbrev pub invariant-loop-rank : goal.invariant-loop-rank
invariant-loop-rank l = (k : ℕ) → k < l.rank → get_or primes k 0 ≡ l.p → ⊥

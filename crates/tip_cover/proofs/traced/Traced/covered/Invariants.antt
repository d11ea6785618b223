use Rattle.tip_code.specs.Geometry.{prime_of}
use Rattle.tip_cover.proofs.Covering.{Covered}
use Rattle.tip_cover.proofs.traced.Traced.covered.Given as goal

abbrev pub invariant-loop-place : goal.invariant-loop-place
invariant-loop-place l = Covered (prime_of l.self.geometry) l.chain.direction l.chain.line l.place l.set l.count

use Rattle.tip_code.specs.Geometry.{prime_of}
use Rattle.tip_store.specs.Layout.{Swept}
use Rattle.tip_store.proofs.layout.Layout.sweep.Given as goal

abbrev pub invariant-loop-stripe : goal.invariant-loop-stripe
invariant-loop-stripe l = Swept (prime_of l.self.geometry) l.stripe l.self.width l.device l.event l.initial.bytes l.bytes

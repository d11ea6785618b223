use Rattle.tip_code.specs.Geometry.{prime_of}
use Rattle.tip_code.proofs.Sizes.{facts}
use Rattle.tip_algebra.proofs.Decided.{decided}
use Rattle.tip_solve.proofs.Stopping.{stopped_few}
use Rattle.tip_solve.proofs.solve.solve.Goals as goal

pub returns-clause-stop : goal.returns-clause-stop
returns-clause-stop g c = stopped_few _ _ _ _ _ _ _ c.recover_few-answer.result (rw c.work_len-size.ensures at c.in_ok-fitting.ensures) c.recover_few-answer.ensures

pub returns-clause-decided : goal.returns-clause-decided
returns-clause-decided g c = decided g.E.Element.laws (prime_of c.args.geometry) (facts c.args.geometry)

pub returns-in_err-fitting-clause-decided : goal.returns-in_err-fitting-clause-decided
returns-in_err-fitting-clause-decided g c = decided g.E.Element.laws (prime_of c.args.geometry) (facts c.args.geometry)

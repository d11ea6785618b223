-- Which stop a buffer of traces gets.
use Rattle.std.proofs.Common.{arith}
use Rattle.std.proofs.lemmas.Bool.Decides.{nat_tests}
use Rattle.tip_cover.specs.Cover.{too_large, wrong_length}
use Rattle.tip_cover.proofs.check_size.Goals as goal

pub returns-then-not-is_traced-clause-stop : goal.returns-then-not-is_traced-clause-stop
returns-then-not-is_traced-clause-stop c = record { this = too_large (grind (arith, nat_tests)); lower = λ t l f. grind arith }

pub returns-then-held-needed-clause-stop : goal.returns-then-held-needed-clause-stop
returns-then-held-needed-clause-stop c = record { this = wrong_length c.if-held-needed.true; lower = λ t l f. grind (arith, nat_tests) }

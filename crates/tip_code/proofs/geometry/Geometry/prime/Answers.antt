use Rattle.std.proofs.Common.{get_or, ap, ◌∙◌}
use Rattle.tip_code.specs.Geometry.{prime_of}
use Rattle.tip_code.specs.Primes.{primes}
use Rattle.tip_code.proofs.Tables.{prime_facts}
use Rattle.tip_code.proofs.geometry.Geometry.prime.Goals as goal

pub returns-clause-value : goal.returns-clause-value
unfolding prime_of
returns-clause-value c = c.prime_at.ensures ∙ ap (λ k. get_or primes k 0) c.min.ensures

pub returns-clause-facts : goal.returns-clause-facts
returns-clause-facts c = prime_facts _ c.prime_at.result.listed

use Rattle.std.proofs.Common.{◌≡◌, min, get_or, ap, ◌∙◌, arith}
use Rattle.tip_code.specs.Geometry.{prime_of}
use Rattle.tip_code.specs.Primes.{primes}
use Rattle.tip_code.proofs.geometry.Geometry.new.Goals as goal

pub returns-clause-value : goal.returns-clause-value
unfolding prime_of
returns-clause-value c =
    let low : min c.in-Some.rank 9 ≡ c.in-Some.rank = omega (arith, c.in-Some.ensures.0) in
    (ap (λ i. get_or primes i 0) low ∙ c.in-Some.ensures.1, search arith)

-- What is known of a geometry's prime; which stop a geometry that is asked for gets.
use Rattle.std.proofs.Common.{◌≡◌, ℕ, min, true, false, ◌&&◌, leb, ⊎_elim, arith}
use Rattle.std.proofs.lemmas.Bool.Decides.{nat_tests}
use Rattle.std.proofs.lemmas.Bool.{and_cases, leb-false}
use Rattle.tip_code.specs.Geometry.{prime_of, SizeStop, no_prime, no_stripe, too_many}
use Rattle.tip_code.specs.Primes.{listed, PrimeFacts}
use Rattle.tip_code.specs.Stops.{First}
use Rattle.tip_code.specs.declared.geometry.Geometry.{Geometry}
use Rattle.tip_code.specs.declared.stop.Stop.{Stop}
use Rattle.tip_code.specs.declared.stop.Stop.TheVariants as stop
use Rattle.tip_code.proofs.Tables.{listed_at, prime_facts}

-- every geometry is valid
pub valid : (g : Geometry) → listed (prime_of g) ≡ true
unfolding prime_of
valid g = listed_at (min g.rank 9) (omega arith)

pub facts : (g : Geometry) → PrimeFacts (prime_of g)
facts g = prime_facts (prime_of g) (valid g)

module _ (p n : ℕ) where
  pub size_prime : listed p ≡ false → First (SizeStop p n) stop.Prime
  size_prime h = record { this = no_prime h; lower = λ t f l. grind arith }

  pub size_stripes : listed p ≡ true → (leb 1 n && leb n 4096) ≡ false → First (SizeStop p n) stop.Stripes
  size_stripes t h = record { this = ⊎_elim (λ e. no_stripe (omega (arith, leb-false 1 n e))) (λ e. too_many (leb-false n 4096 e)) (and_cases (leb 1 n) (leb n 4096) h); lower = λ s f l. grind (arith, t) }

  pub size_none : listed p ≡ true → (leb 1 n && leb n 4096) ≡ true → (s : Stop) → SizeStop p n s → ⊥
  size_none t range s f = grind (arith, nat_tests, t, range, f)

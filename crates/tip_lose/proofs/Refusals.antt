-- Which stop a choice gets.
use Rattle.std.proofs.Common.{◌≡◌, ℕ, true, Option, subst, arith}
use Rattle.tip_code.specs.Geometry.{prime_of, SizeStop}
use Rattle.tip_code.specs.Primes.{listed}
use Rattle.tip_code.specs.Stops.{First}
use Rattle.tip_code.specs.declared.geometry.Geometry.{Geometry}
use Rattle.tip_code.specs.declared.stop.Stop.{Stop}
use Rattle.tip_code.specs.declared.stop.Stop.TheVariants as stop
use Rattle.tip_code.proofs.Sizes.{valid}
use Rattle.tip_columns.specs.declared.Columns.{Columns}
use Rattle.tip_lose.specs.Choosing.{Within, Many, ChoiceStop, no_prime, no_column, too_many}

-- the prime of a geometry is one of the ten, by whatever name
pub listed_of : (g : Geometry) (p : ℕ) → prime_of g ≡ p → listed p ≡ true
listed_of g p e = subst (λ (q : ℕ). listed q ≡ true) e (valid g)

module _ (p : ℕ) (lost : Option Columns) where
  -- a geometry of one stripe is refused for its prime alone
  pub choice_prime : (s : Stop) → First (SizeStop p 1) s → First (ChoiceStop p lost) s
  choice_prime s f = record { this = grind (arith, no_prime, f.this); lower = λ t l g. grind (arith, f.this) }

  -- at a prime of the code, a column above p is refused
  pub choice_column : listed p ≡ true → (Within p lost → ⊥) → First (ChoiceStop p lost) stop.Column
  choice_column prime above = record { this = no_column above; lower = λ t l g. grind arith }

  -- and where none is above p, too many are
  pub choice_many : listed p ≡ true → Within p lost → Many lost → First (ChoiceStop p lost) stop.Lost
  choice_many prime within many = record { this = too_many many; lower = λ t l g. grind arith }

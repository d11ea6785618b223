-- Which stop solving gets.
use Rattle.std.proofs.Common.{◌≡◌, ℕ, ◌<◌, ◌≤◌, true, Ok, Err, Result, arith, rules, MatchResult}
use Rattle.tip_code.specs.Geometry.{cells_in}
use Rattle.tip_code.specs.Stops.{number, First, Stopped}
use Rattle.tip_code.specs.declared.stop.Stop.{Stop}
use Rattle.tip_code.specs.declared.stop.Stop.TheVariants as stop
use Rattle.tip_columns.specs.Sets.{in_set, size}
use Rattle.tip_columns.specs.declared.Columns.{Columns}
use Rattle.tip_solve.specs.Solving.{SolveStop, cells_length, too_short, no_column, too_many, Fitting}

module _ (p cells room least : ℕ) (lost : Columns) where
  -- no stop fits that has a lower number, where each such is ruled out
  none_lower : (n : ℕ) → (3 < n → cells ≡ cells_in p) → (9 < n → least ≤ room) → (12 < n → (c : ℕ) → in_set lost c ≡ true → c ≤ p) → (13 < n → size lost ≤ 3) → {t : Stop} → number t < n → SolveStop p cells room least lost t → ⊥
  none_lower n sized enough columns few l (cells_length h) = h (sized l)
  none_lower n sized enough columns few l (too_short h) = omega (arith, enough l)
  none_lower n sized enough columns few l (no_column h) = h (columns l)
  none_lower n sized enough columns few l (too_many h) = omega (arith, few l)

  pub first_stop : (s : Stop) → SolveStop p cells room least lost s → (3 < number s → cells ≡ cells_in p) → (9 < number s → least ≤ room) → (12 < number s → (c : ℕ) → in_set lost c ≡ true → c ≤ p) → (13 < number s → size lost ≤ 3) → First (SolveStop p cells room least lost) s
  first_stop s this sized enough columns few = record { this = this; lower = λ t l f. none_lower (number s) sized enough columns few l f }

  -- where the first three stops do not fit, the number of lost columns decides
  pub stopped_few : (A B : Type 0) (r : Result (Unit {0}) Stop) → Fitting p cells room least lost → MatchResult r (λ _. (size lost ≤ 3) × A) (λ s. (s ≡ stop.Lost) × (3 < size lost) × B) → Stopped (SolveStop p cells room least lost) r
  stopped_few A B (Ok a) fit few = λ t f. none_lower 14 (λ _. fit.sized) (λ _. fit.enough) (λ _. fit.columns) (λ _. few.0) (search rules) f
  stopped_few A B (Err s) fit many = rw many.0 (first_stop stop.Lost (too_many many.1) (λ _. fit.sized) (λ _. fit.enough) (λ _. fit.columns) (λ l. omega arith))

-- Writing columns and cells.
use Rattle.std.specs.Prelude.{◌≡◌, ℕ, ◌-◌, ◌<◌, ◌≤◌, cond, ◌==◌, ◌≢◌}

-- The stripe Y is X but for column c.
abbrev pub Elsewhere : {E : Type 0} → ℕ → ℕ → (ℕ → ℕ → E) → (ℕ → ℕ → E) → Type 0
Elsewhere p c X Y = (r k : ℕ) → r < p - 1 → k ≤ p → (k ≢ c) → Y r k ≡ X r k

-- The stripe Y is X but for cell (s, c).
abbrev pub CellElsewhere : {E : Type 0} → ℕ → ℕ → ℕ → (ℕ → ℕ → E) → (ℕ → ℕ → E) → Type 0
CellElsewhere p s c X Y = (r k : ℕ) → r < p - 1 → k ≤ p → (r ≡ s → k ≢ c) → Y r k ≡ X r k

-- Column c of Y is that of W, with zero for the antidiagonal parity.
abbrev pub UpToAntidiagonal : {E : Type 0} → E → ℕ → ℕ → (ℕ → ℕ → E) → (ℕ → ℕ → E) → Type 0
UpToAntidiagonal none p c W Y = (r : ℕ) → r < p - 1 → Y r c ≡ cond (r == p - 1 - c) none (W r c)

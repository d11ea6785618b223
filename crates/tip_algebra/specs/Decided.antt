-- How many columns decide an encoded stripe.
use Rattle.std.specs.Prelude.{◌≡◌, ℕ, ◌+◌, ◌-◌, ◌<◌, ◌≤◌, Bool, true}
use Rattle.tip_element.specs.Counts.{count_below}
use Rattle.tip_code.specs.Encoding.{Encoded}

-- Any p - 2 columns decide an encoded stripe: two that agree on them are the same.
abbrev pub Decided : {E : Type 0} → E → (E → E → E) → ℕ → Type 0
Decided {E} none join p =
    (X Y : ℕ → ℕ → E) → Encoded none join p X → Encoded none join p Y → (kept : ℕ → Bool) → p - 2 ≤ count_below (p + 1) kept → ((r c : ℕ) → r < p - 1 → c ≤ p → kept c ≡ true → X r c ≡ Y r c) → (r c : ℕ) → r < p - 1 → c ≤ p → X r c ≡ Y r c

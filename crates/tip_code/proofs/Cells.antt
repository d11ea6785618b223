-- Which cells hold data, as facts on numbers; where cells stand in a stripe buffer.
use Rattle.std.proofs.Common.{◌≡◌, ℕ, ◌+◌, ◌-◌, ◌*◌, ◌<◌, ◌≤◌, true, false, ◌⊎◌, mul_comm, arith}
use Rattle.std.proofs.lemmas.Nat.{mul-add-lt, same_from_place}
use Rattle.std.proofs.lemmas.Bool.Decides.{nat_tests}
use Rattle.std.proofs.lemmas.Bool.{false_from_ne_true}
use Rattle.tip_code.specs.Stripe.{data_cell, cell_index}

-- what a data cell keeps clear of
pub record Data (p r c : ℕ) : Type 0 where
  pub row : r < p - 1
  pub column : c < p
  pub diagonal : c ≡ r + 1 → ⊥
  pub antidiagonal : c ≡ p - 1 - r → ⊥

module _ (p r c : ℕ) where
  pub data_facts : data_cell p r c ≡ true → Data p r c
  unfolding data_cell
  data_facts t = record {
    row = grind (arith, nat_tests, t);
    column = grind (arith, nat_tests, t);
    diagonal = λ e. grind (arith, nat_tests, t, e);
    antidiagonal = λ e. grind (arith, nat_tests, t, e);
  }

  pub data_from : Data p r c → data_cell p r c ≡ true
  unfolding data_cell
  data_from h = grind (arith, nat_tests, h.row, h.column, h.diagonal, h.antidiagonal)

  pub data_not : (Data p r c → ⊥) → data_cell p r c ≡ false
  data_not h = false_from_ne_true (data_cell p r c) (λ e. h (data_facts e))

  -- a cell of the stripe that holds no data is the parity of its row's number, in one of the three directions
  pub parity_cases : data_cell p r c ≡ false → r < p - 1 → c ≤ p → (c ≡ p) ⊎ ((c ≡ r + 1) ⊎ (c ≡ p - 1 - r))
  unfolding data_cell
  parity_cases t h l = grind (arith, nat_tests, t, h, l)

-- two cells at one index of a stripe buffer are the same
pub index_apart : (p r c s d : ℕ) → r < p - 1 → s < p - 1 → cell_index p r c ≡ cell_index p s d → (r ≡ s) × (c ≡ d)
index_apart p r c s d h k e = let same = same_from_place c r d s (p - 1) h k e in (same.1, same.0)

pub index_within : (p r c : ℕ) → r < p - 1 → c ≤ p → cell_index p r c < (p - 1) * (p + 1)
index_within p r c h l = mul-add-lt c (p - 1) r (p + 1) (omega arith) h

pub index_before : (p r c : ℕ) → r < p - 1 → c < p → cell_index p r c < p * (p - 1)
index_before p r c h l = omega (arith, mul-add-lt c (p - 1) r p l h, mul_comm (p - 1) p)

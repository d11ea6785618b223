-- Which columns are solved for: the first three that are lost, and no others are.
use Rattle.std.proofs.Common.{◌≡◌, ℕ, ◌+◌, ◌-◌, ◌/◌, ◌^◌, ◌<◌, ◌≤◌, true, false, eqb, sym, ap, ◌∙◌, w64, arith}
use Rattle.std.specs.Int.{trailing_zeros}
use Rattle.std.proofs.lemmas.Nat.{shr_le}
use Rattle.std.proofs.lemmas.Nat.Bits.{bit_at-trailing_zeros}
use Rattle.std.proofs.lemmas.Bool.Decides.{nat_tests}
use Rattle.std.proofs.lemmas.Bool.{cases_Bool}
use Rattle.std.proofs.lemmas.Grind.{common_steps}
use Rattle.tip_element.specs.Traces.{bit}
use Rattle.tip_element.proofs.Bits.{bit_zero}
use Rattle.tip_algebra.proofs.Counts.{Clear, four}
use Rattle.tip_columns.proofs.Masks.{bit_from}
use Rattle.tip_columns.specs.Sets.{in_set, size}
use Rattle.tip_columns.specs.declared.Columns.{Columns}
use Rattle.tip_solve.specs.Seeking.{Seeks}
use Rattle.tip_solve.specs.declared.sought.Sought.TheVariants.{Three}

-- the first bit of a word from one on
module _ (x from : ℕ) where
  pub no_bit : x / 2 ^ from ≡ 0 → (c : ℕ) → from ≤ c → bit x c ≡ false
  no_bit none c h =
      let e : from + (c - from) ≡ c = omega arith in
      ap (bit x) (sym e) ∙ sym (bit_from x from (c - from)) ∙ ap (λ q. bit q (c - from)) none ∙ bit_zero (c - from)

  pub first_bit : (k : ℕ) → x < 2 ^ 64 → (x / 2 ^ from ≡ 0 → ⊥) → k ≡ from + trailing_zeros w64 (x / 2 ^ from)
      → (bit x k ≡ true) × ((c : ℕ) → from ≤ c → c < k → bit x c ≡ false)
  first_bit k low some is =
      let q = x / 2 ^ from in
      let t = trailing_zeros w64 q in
      let h = bit_at-trailing_zeros w64 q (omega arith) (omega (arith, low, shr_le x from)) in (
        ap (bit x) is ∙ sym (bit_from x from t) ∙ ap (λ b. eqb b 1) h.1,
        λ c l b.
            let e : from + (c - from) ≡ c = omega arith in
            ap (bit x) (sym e) ∙ sym (bit_from x from (c - from)) ∙ ap (λ b. eqb b 1)
            (h.2 (c - from) (omega (arith, is))),
      )

module _ (p : ℕ) (lost : Columns) (a b d : ℕ) (ab : a < b) (bd : b < d) (dp : d < p) (small : p ≤ 31) (before : Clear (in_set lost) 0 a) (between : Clear (in_set lost) (a + 1) b) (rest : Clear (in_set lost) (b + 1) d) (few : size lost ≤ 3) (la : in_set lost a ≡ true) (lb : in_set lost b ≡ true) (ld : in_set lost d ≡ true) where
  -- there is no fourth
  no_fourth : (c : ℕ) → d < c → c ≤ p → in_set lost c ≡ true → ⊥
  unfolding size
  no_fourth c past l on = omega (arith, four a b d c 64 (in_set lost) ab bd past (omega arith) la lb ld on)

  pub seeks_three : Seeks p lost (Three (record { first = a; middle = b; last = d; ordered = ab; ascending = bd }))
  seeks_three =
      record {
        below = dp;
        all = λ c l. grind (
          arith,
          nat_tests,
          common_steps,
          cases_Bool
              (in_set lost c),
          before c,
          between c,
          rest c,
          no_fourth c,
        );
        rows = grind (arith, common_steps, no_fourth p);
      }

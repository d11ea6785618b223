-- Sets of columns with one more in them, and sets that end.
use Rattle.std.proofs.Common.{◌≡◌, ℕ, ◌+◌, ◌-◌, ◌/◌, ◌%◌, ◌^◌, ◌<◌, ◌≤◌, true, false, ◌||◌, eqb, leb, sym, ap, ◌∙◌, ⊎_elim, arith}
use lib.Bits.{bit_or}
use Rattle.std.proofs.lemmas.Nat.{shr-shr, shr_le, pow_pos}
use Rattle.std.proofs.lemmas.Nat.Bits.{bit_at_or, bit_at-lt}
use Rattle.std.proofs.lemmas.Bool.{cases_lt, both_ways, eqb-true, eq-eqb, le-leb, false_from_ne_true}
use Rattle.std.proofs.lemmas.Bool.Decides.{nat_tests}
use Rattle.tip_element.specs.Laws.{Exactly}
use Rattle.tip_element.specs.Traces.{bit}
use Rattle.tip_element.proofs.Bits.{bit_power, bit_above, bit_zero, bits_same}

-- A bit of an or is set where either bit is.
bit_of_or : (x y n : ℕ) → bit (bit_or x y) n ≡ (bit y n || bit x n)
bit_of_or x y n = grind (arith, nat_tests, bit_at_or x y n, bit_at-lt x n, bit_at-lt y n)

-- One bit more.
pub bit_more : (x y k n : ℕ) → y ≡ 2 ^ k → bit (bit_or x y) n ≡ (eqb n k || bit x n)
bit_more x y k n e = ap (λ z. bit (bit_or x z) n) e ∙ bit_of_or x (2 ^ k) n ∙ ap (λ b. b || bit x n) (bit_power k n)

-- The bits from k on are those of the quotient by 2 ^ k.
pub bit_from : (x k n : ℕ) → bit (x / 2 ^ k) n ≡ bit x (k + n)
bit_from x k n = ap (λ z. eqb (z % 2) 1) (shr-shr x k n)

-- A word of 64 bits has no bit set past `last` exactly where that quotient is 0.
pub ends_at : (x last : ℕ) → x < 2 ^ 64 → Exactly (eqb (x / 2 ^ (last + 1)) 0) ((c : ℕ) → bit x c ≡ true → c ≤ last)
ends_at x last low = record { sound = sound; whole = whole }
  where
    sound : eqb (x / 2 ^ (last + 1)) 0 ≡ true → (c : ℕ) → bit x c ≡ true → c ≤ last
    sound t c on =
        ⊎_elim
        (λ (past : last < c).
        let e : last + 1 + (c - (last + 1)) ≡ c = omega arith in
        let off : bit x c ≡ false = ap (bit x) (sym e) ∙ sym (bit_from x (last + 1) (c - (last + 1))) ∙ ap (λ q. bit q (c - (last + 1))) (eqb-true _ 0 t) ∙ bit_zero (c - (last + 1)) in
        absurd (both_ways (bit x c) off on))
        (λ l. l) (cases_lt last c)

    off : (c : ℕ) → ((c : ℕ) → bit x c ≡ true → c ≤ last) → last < c → bit x c ≡ false
    off c ends l = false_from_ne_true (bit x c) (λ e. omega (arith, ends c e))

    whole : ((c : ℕ) → bit x c ≡ true → c ≤ last) → eqb (x / 2 ^ (last + 1)) 0 ≡ true
    whole ends =
        eq-eqb (x / 2 ^ (last + 1)) 0
        (bits_same 64 (x / 2 ^ (last + 1)) 0 (omega (arith, shr_le x (last + 1))) (pow_pos 64)
        (λ n _. bit_from x (last + 1) n ∙ off (last + 1 + n) ends (omega arith) ∙ sym (bit_zero n)))

-- A word of 64 bits has no bit set from 64 on.
pub ends_last : (x last : ℕ) → x < 2 ^ 64 → 63 ≤ last → Exactly (leb 63 last) ((c : ℕ) → bit x c ≡ true → c ≤ last)
ends_last x last low h = record { sound = λ _ c on. grind (arith, bit_above 64 x c low); whole = λ _. le-leb 63 last h }

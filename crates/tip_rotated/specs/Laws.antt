-- The laws of shelves, for a rotated one.
use Rattle.std.proofs.Common.{◌≡◌, ℕ, ◌+◌, ◌%◌, ◌<◌, ◌≤◌, ◌⊎◌, mod-eq_of_lt, arith}
use Rattle.std.proofs.Math.Nat.{mod-eq-sub-mod, add-mod-mod}
use Rattle.std.proofs.lemmas.Nat.{mod_below}
use Rattle.std.proofs.lemmas.Bool.Decides.{nat_tests}
use Rattle.tip_shelf.specs.Meaning.{Meaning, Sound, Devices}
use Rattle.tip_rotated.specs.Turning.{turned, rotated}

-- A column turns into one up to p.
pub turned_in : (p i c : ℕ) → turned p i c ≤ p
turned_in p i c = grind (arith, mod_below (c + i) (p + 1))

-- A sum of two numbers below n, mod n, is that sum, or n less.
sum_mod : (a b n : ℕ) → a < n → b < n → ((a + b) % n ≡ a + b) ⊎ ((a + b) % n + n ≡ a + b)
sum_mod a b n h k = grind (arith, mod-eq_of_lt, mod-eq-sub-mod)

-- No two columns of a stripe turn into one.
pub turned_apart : (p i c d : ℕ) → c ≤ p → d ≤ p → turned p i c ≡ turned p i d → c ≡ d
turned_apart p i c d h k e =
    let n = p + 1 in
    grind (arith, mod_below i n, add-mod-mod c i n, add-mod-mod d i n, sum_mod c (i % n) n, sum_mod d (i % n) n)

module _ {E : Type 0} where
  pub sound_rotated : {v : Meaning E} → Sound v → Sound (rotated v)
  sound_rotated s = grind (arith, nat_tests, turned_in, turned_apart)

  pub devices_rotated : {v : Meaning E} → Devices v → Devices (rotated v)
  devices_rotated h = grind (arith, turned_in)

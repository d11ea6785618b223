-- Strips have different numbers, below the count of strips, and stand apart.
use Rattle.std.proofs.Common.{◌≡◌, ℕ, ◌+◌, ◌*◌, ◌<◌, ◌≤◌, arith}
use Rattle.std.proofs.Math.Nat.{mul-le-mul_right}
use Rattle.std.proofs.lemmas.Nat.{mul-add-lt, same_from_place}
use Rattle.tip_code.proofs.Sizes.{facts}
use Rattle.tip_code.specs.Geometry.{prime_of}
use Rattle.tip_code.specs.declared.geometry.Geometry.{Geometry}
use Rattle.tip_store.specs.Layout.{strips_in, strip_number}

pub number_below : (p n i c : ℕ) → i < n → c ≤ p → strip_number p i c < strips_in p n
number_below p n i c h k = mul-add-lt i (p + 1) c n h (omega arith)

-- the prime of a geometry is small, so what an array has is counted in 64 bits
pub prime_high : (g : Geometry) → prime_of g ≤ 31
prime_high g = (facts g).high

pub number_one : (p i c j d : ℕ) → c ≤ p → d ≤ p → strip_number p i c ≡ strip_number p j d → (i ≡ j) × (c ≡ d)
number_one p i c j d h k e = same_from_place i c j d (p + 1) (omega arith) (omega arith) e

-- each of m parts of w elements ends within them all
pub part_within : (k w m : ℕ) → k < m → k * w + w ≤ m * w
part_within k w m h = let le : (k + 1) * w ≤ m * w = mul-le-mul_right w (omega arith) in omega (arith, le)

-- and no two begin at one index
pub part_one : (j k w : ℕ) → 1 ≤ w → j * w ≡ k * w → j ≡ k
part_one j k w h e = let same = same_from_place j 0 k 0 w (omega arith) (omega arith) (omega (arith, e)) in same.0

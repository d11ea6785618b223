-- The sizes of an array: its prime and its number of stripes.
use Rattle.std.specs.Prelude.{◌≡◌, ℕ, ◌+◌, ◌-◌, ◌*◌, ◌≤◌, min, false, slice_index}
use Rattle.tip_code.specs.Primes.{primes, listed}
use Rattle.tip_code.specs.declared.geometry.Geometry.{Geometry}
use Rattle.tip_code.specs.declared.stop.Stop.{Stop}
use Rattle.tip_code.specs.declared.stop.Stop.TheVariants as stop

-- The prime p of a geometry: an entry of the table.
unfoldable pub prime_of : Geometry → ℕ
prime_of g = slice_index primes (min g.rank 9)

-- Its number of stripes: at most 4096, and at least one.
abbrev pub stripes_of : Geometry → ℕ
stripes_of g = min g.last 4095 + 1

-- When sizes p and n are refused: p is not one of the primes; there is no stripe, or too many.
pub data SizeStop (p n : ℕ) : Stop → Type 0 where
  no_prime : listed p ≡ false → SizeStop p n stop.Prime
  no_stripe : n ≡ 0 → SizeStop p n stop.Stripes
  too_many : 4097 ≤ n → SizeStop p n stop.Stripes

-- How many elements a stripe buffer holds, and how many of them are places.
abbrev pub cells_in : ℕ → ℕ
cells_in p = (p - 1) * (p + 1)

abbrev pub places_in : ℕ → ℕ
places_in p = (p - 1) * (p - 2)

-- Which stop an image of another length gets.
use Rattle.std.proofs.Common.{◌≡◌, ℕ, true, false, List, length, arith}
use Rattle.std.specs.Borrow.{MutBor}
use Rattle.tip_code.specs.Geometry.{prime_of, stripes_of}
use Rattle.tip_code.specs.Stops.{First}
use Rattle.tip_code.specs.declared.geometry.Geometry.{Geometry}
use Rattle.tip_code.specs.declared.stop.Stop.{Stop}
use Rattle.tip_code.specs.declared.stop.Stop.TheVariants as stop
use Rattle.tip_image.specs.Image.{Over, LengthStop, wrong_length, fits_of}
use Rattle.tip_image.specs.declared.ImageShelf.{ImageShelf}

pub length_stop : (g : Geometry) (bs : MutBor (List ℕ)) (s : ImageShelf) → Over g bs s → fits_of s ≡ false → First (LengthStop (prime_of g) (stripes_of g) (length bs.now)) stop.Length
length_stop g bs s over unfit = record { this = wrong_length (rw (over.geometry, over.bytes) at unfit); lower = λ t l f. grind arith }

-- one of the fitting length gets none
pub no_stop : (g : Geometry) (bs : MutBor (List ℕ)) (s : ImageShelf) → Over g bs s → fits_of s ≡ true → (t : Stop) → LengthStop (prime_of g) (stripes_of g) (length bs.now) t → ⊥
no_stop g bs s over fits t (wrong_length unfit) = absurd (grind (arith, over.geometry, over.bytes, fits, unfit))

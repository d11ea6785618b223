-- Which stop buffers of other lengths get.
use Rattle.std.proofs.Common.{◌≡◌, ℕ, false, List, length, arith}
use Rattle.std.specs.Borrow.{MutBor}
use Rattle.tip_code.specs.Geometry.{prime_of, stripes_of}
use Rattle.tip_code.specs.Stops.{First}
use Rattle.tip_code.specs.declared.geometry.Geometry.{Geometry}
use Rattle.tip_code.specs.declared.stop.Stop.TheVariants as stop
use Rattle.tip_memory.specs.Memory.{Over, LengthStop, wrong_length, fits_of}
use Rattle.tip_memory.specs.declared.MemoryShelf.{MemoryShelf}

pub length_stop : {E : Type 0} (g : Geometry) (xs : MutBor (List E)) (bs : MutBor (List ℕ)) (s : MemoryShelf E) → Over g xs bs s → fits_of s ≡ false → First (LengthStop (prime_of g) (stripes_of g) (length xs.now) (length bs.now)) stop.Length
length_stop g xs bs s over unfit = record { this = wrong_length (rw (over.geometry, over.cells, over.statuses) at unfit); lower = λ t l f. grind arith }

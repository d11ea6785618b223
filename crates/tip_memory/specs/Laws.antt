-- A memory shelf obeys what is true of every shelf.
use Rattle.std.proofs.Common.{arith}
use Rattle.tip_code.proofs.Sizes.{valid}
use Rattle.tip_code.specs.Geometry.{prime_of}
use Rattle.tip_shelf.specs.Meaning.{Sound, Devices}
use Rattle.tip_store.specs.Laws.{store_sound, store_devices}
use Rattle.tip_memory.specs.Memory.{memory_of, fits_of, store_of}
use Rattle.tip_memory.specs.declared.MemoryShelf.{MemoryShelf}

module _ {E : Type 0} (none : E) (s : MemoryShelf E) where
  pub memory_sound : Sound (memory_of none s)
  memory_sound = store_sound _ _ (fits_of s) (store_of none (prime_of s.geometry.now) s.cells.now s.statuses.now) (valid s.geometry.now) (omega arith) (omega arith)

  pub memory_devices : Devices (memory_of none s)
  memory_devices = store_devices _ _ (fits_of s) (store_of none (prime_of s.geometry.now) s.cells.now s.statuses.now)

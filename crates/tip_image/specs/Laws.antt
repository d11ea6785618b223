-- An image shelf obeys what is true of every shelf.
use Rattle.std.proofs.Common.{arith}
use Rattle.tip_code.proofs.Sizes.{valid}
use Rattle.tip_code.specs.Geometry.{prime_of}
use Rattle.tip_shelf.specs.Meaning.{Sound, Devices}
use Rattle.tip_store.specs.Laws.{store_sound, store_devices}
use Rattle.tip_image.specs.Image.{image_of, fits_of, store_of}
use Rattle.tip_image.specs.declared.ImageShelf.{ImageShelf}

pub image_sound : (s : ImageShelf) → Sound (image_of s)
image_sound s = store_sound _ _ (fits_of s) (store_of (prime_of s.geometry.now) s.bytes.now) (valid s.geometry.now) (omega arith) (omega arith)

pub image_devices : (s : ImageShelf) → Devices (image_of s)
image_devices s = store_devices _ _ (fits_of s) (store_of (prime_of s.geometry.now) s.bytes.now)

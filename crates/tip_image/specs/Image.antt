-- What the bytes of an image mean as a shelf of words.
use Rattle.std.specs.Prelude.{◌≡◌, ℕ, ◌+◌, ◌-◌, ◌*◌, ◌<◌, Bool, true, false, ◌==◌, List, [], ◌∷◌, length, map, slice_index_or}
use Rattle.std.specs.Borrow.{GName, MutBor}
use Rattle.std.specs.Int.{w64, from_be_bytes}
use Rattle.std.specs.List.{range_with_len}
use Rattle.tip_code.specs.Geometry.{prime_of, stripes_of}
use Rattle.tip_code.specs.declared.geometry.Geometry.{Geometry}
use Rattle.tip_code.specs.declared.stop.Stop.{Stop}
use Rattle.tip_code.specs.declared.stop.Stop.TheVariants as stop
use Rattle.tip_element.specs.Words.{word}
use Rattle.tip_element.specs.declared.word.Word.{Word}
use Rattle.tip_shelf.specs.Meaning.{Meaning}
use Rattle.tip_shelf.specs.declared.shelf.State.{State}
use Rattle.tip_shelf.specs.declared.shelf.State.TheVariants.{Held}
use Rattle.tip_store.specs.Layout.{strips_in, strip_number, status_in, HasStrip}
use Rattle.tip_store.specs.Status.{state_for}
use Rattle.tip_store.specs.Store.{Store, shelf_of}
use Rattle.tip_image.specs.declared.ImageShelf.{ImageShelf}

-- How many bytes a strip has: a status byte, and eight bytes for each of its p - 1 words.
abbrev pub width : ℕ → ℕ
width p = 8 * (p - 1) + 1

-- The image has the length of the array.
abbrev pub fitting : ℕ → ℕ → ℕ → Bool
fitting p n bytes = bytes == strips_in p n * width p

-- Where the word of strip k in row r begins: strips stand one after another, the status byte of each before its words.
abbrev pub word_at : ℕ → ℕ → ℕ → ℕ
word_at p k r = k * width p + (1 + 8 * r)

-- The eight bytes from index a on, and the word that they are, the highest byte first.
abbrev pub eight : List ℕ → ℕ → List ℕ
eight bytes a = map (λ j. slice_index_or bytes (a + j) 0) (range_with_len 0 8)

abbrev pub word_from : List ℕ → ℕ → Word
word_from bytes a = word (from_be_bytes w64 (eight bytes a))

-- The strips that the image holds.
abbrev pub store_of : ℕ → List ℕ → Store Word
store_of p bytes = record { status = status_in (width p) bytes; cell = λ k r. word_from bytes (word_at p k r) }

-- The image as a shelf: without strips where it has another length.
abbrev pub image : Geometry → List ℕ → Meaning Word
image g bytes = shelf_of (prime_of g) (stripes_of g) (fitting (prime_of g) (stripes_of g) (length bytes)) (store_of (prime_of g) bytes)

abbrev pub image_of : ImageShelf → Meaning Word
image_of s = image s.geometry.now s.bytes.now

-- The loan that the shelf was made of.
abbrev pub loans : ImageShelf → List GName
loans s = s.bytes.ghost_name ∷ []

-- The image of the shelf has the length of its array.
abbrev pub fits_of : ImageShelf → Bool
fits_of s = fitting (prime_of s.geometry.now) (stripes_of s.geometry.now) (length s.bytes.now)

-- What the status byte of strip k says.
abbrev pub state_in : ImageShelf → ℕ → State
state_in s k = state_for (status_in (width (prime_of s.geometry.now)) s.bytes.now k)

-- The image fits, the strip at stripe i and column c is held, and its word in row r begins at index j.
pub record WordAt (s : ImageShelf) (i c r j : ℕ) : Type 0 where
  pub fits : fits_of s ≡ true
  pub has : HasStrip (prime_of s.geometry.now) (stripes_of s.geometry.now) i c
  pub row : r < prime_of s.geometry.now - 1
  pub held : state_in s (strip_number (prime_of s.geometry.now) i c) ≡ Held
  pub index : j ≡ word_at (prime_of s.geometry.now) (strip_number (prime_of s.geometry.now) i c) r
  pub within : j + 7 < length s.bytes.now

-- There is no such word, since the image does not fit, or there is no such strip or row, or the strip is out.
abbrev pub NoWord : ImageShelf → ℕ → ℕ → ℕ → Type 0
NoWord s i c r = fits_of s ≡ true → HasStrip (prime_of s.geometry.now) (stripes_of s.geometry.now) i c → r < prime_of s.geometry.now - 1 → state_in s (strip_number (prime_of s.geometry.now) i c) ≡ Held → ⊥

-- The shelf s is laid over the bytes bs: it has what they hold, and writes there.
pub record Over (g : Geometry) (bs : MutBor (List ℕ)) (s : ImageShelf) : Type 0 where
  pub geometry : s.geometry.now ≡ g
  pub bytes : s.bytes.now ≡ bs.now
  pub lent : loans s ≡ bs.ghost_name ∷ []

-- When a shelf is refused: the image has another length.
pub data LengthStop (p n bytes : ℕ) : Stop → Type 0 where
  wrong_length : fitting p n bytes ≡ false → LengthStop p n bytes stop.Length

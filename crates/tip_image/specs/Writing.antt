-- What the calls of an image shelf leave in its bytes: s is the shelf before a call, and t after it.
use Rattle.std.specs.Prelude.{◌≡◌, ℕ, ◌+◌, ◌*◌, ◌<◌, ◌≤◌, true, false, ◌&&◌, nat_le, List, length, Result, MatchResult, slice_index_or, slice_set}
use Rattle.std.specs.Int.{w64, to_be_bytes}
use Rattle.tip_code.specs.Geometry.{prime_of, stripes_of}
use Rattle.tip_element.specs.Words.{no_word}
use Rattle.tip_element.specs.declared.word.Word.{Word}
use Rattle.tip_shelf.specs.Performing.{ShelfCall, state_call, get_call, put_call, erase_call, restore_call, pull_call, fit_call}
use Rattle.tip_shelf.specs.declared.shelf.Out.{Out}
use Rattle.tip_store.specs.Layout.{strip_number, Swept}
use Rattle.tip_store.specs.Pasting.{Pasted}
use Rattle.tip_store.specs.declared.status.Event.{Event}
use Rattle.tip_store.specs.declared.status.Event.TheVariants.{Pull, Fit}
use Rattle.tip_image.specs.Image.{width, word_at, fits_of}
use Rattle.tip_image.specs.declared.ImageShelf.{ImageShelf}

-- The bytes of a word, the highest first.
abbrev pub bytes_of : Word → List ℕ
bytes_of w = to_be_bytes w64 w.0

-- ys is xs with the bytes of these words written over those from index a on, word after word, and no other byte is changed.
pub record Worded (a : ℕ) (ws : List Word) (xs ys : List ℕ) : Type 0 where
  pub size : length ys ≡ length xs
  pub there : (r j : ℕ) → r < length ws → j < 8 → slice_index_or ys (a + 8 * r + j) 0 ≡ slice_index_or (bytes_of (slice_index_or ws r no_word)) j 0
  pub elsewhere : (k : ℕ) → ((r j : ℕ) → r < length ws → j < 8 → k ≡ a + 8 * r + j → ⊥) → slice_index_or ys k 0 ≡ slice_index_or xs k 0

module _ (s t : ImageShelf) where
  -- Nothing is written.
  abbrev pub Untouched : Type 0
  Untouched = t.bytes.now ≡ s.bytes.now

  -- Where the strip at stripe i and column c begins, with its status byte.
  abbrev pub start : ℕ → ℕ → ℕ
  start i c = strip_number (prime_of s.geometry.now) i c * width (prime_of s.geometry.now)

  -- A put writes the eight bytes of its word, or nothing where it says out.
  abbrev pub Puts : ℕ → ℕ → ℕ → Word → Result (Unit {0}) Out → Type 0
  Puts i c r w result = MatchResult result (λ _. Pasted 0 (word_at (prime_of s.geometry.now) (strip_number (prime_of s.geometry.now) i c) r) (bytes_of w) s.bytes.now t.bytes.now) (λ _. Untouched)

  -- An erase writes its one status byte, or nothing where it says out.
  abbrev pub Erases : ℕ → ℕ → Result (Unit {0}) Out → Type 0
  Erases i c result = MatchResult result (λ _. t.bytes.now ≡ slice_set s.bytes.now (start i c) 1) (λ _. Untouched)

  -- A restore writes the words of its strip and the status byte, or nothing where it says out.
  abbrev pub Restores : ℕ → ℕ → List Word → Result (Unit {0}) Out → Type 0
  Restores i c ws result = MatchResult result (λ _. Worded (start i c + 1) ws (slice_set s.bytes.now (start i c) 2) t.bytes.now) (λ _. Untouched)

  -- A pull or a fit writes status bytes alone, those of its device, and nothing where the image does not fit or the device is above p.
  pub record Serves (d : ℕ) (e : Event) : Type 0 where
    pub swept : fits_of s ≡ true → d ≤ prime_of s.geometry.now → Swept (prime_of s.geometry.now) (stripes_of s.geometry.now) (width (prime_of s.geometry.now)) d e s.bytes.now t.bytes.now
    pub unfit : fits_of s ≡ false → Untouched
    pub beyond : prime_of s.geometry.now < d → Untouched

-- What a call of an image shelf writes. Asking for a state and getting a word write nothing.
abbrev pub Writes : ImageShelf → ShelfCall Word → ImageShelf → Type 0
Writes s (state_call i c a) t = Untouched s t
Writes s (get_call i c r a) t = Untouched s t
Writes s (put_call i c r w a) t = Puts s t i c r w a
Writes s (erase_call i c a) t = Erases s t i c a
Writes s (restore_call i c ws a) t = Restores s t i c ws a
Writes s (pull_call d) t = Serves s t d Pull
Writes s (fit_call d a) t = Serves s t d Fit × (a ≡ (fits_of s && nat_le d (prime_of s.geometry.now)))

-- What two lent buffers mean as a shelf.
use Rattle.std.specs.Prelude.{◌≡◌, ℕ, ◌+◌, ◌-◌, ◌*◌, ◌<◌, Bool, true, false, ◌&&◌, ◌==◌, List, [], ◌∷◌, length, slice_index_or}
use Rattle.std.specs.Borrow.{GName, MutBor}
use Rattle.tip_code.specs.declared.stop.Stop.{Stop}
use Rattle.tip_code.specs.declared.stop.Stop.TheVariants as stop
use Rattle.tip_code.specs.Geometry.{prime_of, stripes_of}
use Rattle.tip_code.specs.declared.geometry.Geometry.{Geometry}
use Rattle.tip_shelf.specs.Meaning.{Meaning}
use Rattle.tip_store.specs.Layout.{strips_in, strip_number, status_in, HasStrip}
use Rattle.tip_store.specs.Status.{state_for}
use Rattle.tip_shelf.specs.declared.shelf.State.{State}
use Rattle.tip_shelf.specs.declared.shelf.State.TheVariants.{Held}
use Rattle.tip_store.specs.Store.{Store, shelf_of}
use Rattle.tip_memory.specs.declared.MemoryShelf.{MemoryShelf}

-- How many cells an array of n stripes has.
abbrev pub cells_of : ℕ → ℕ → ℕ
cells_of p n = strips_in p n * (p - 1)

-- The buffers have the lengths of the array: an element for each cell, and a status byte for each strip.
abbrev pub fitting : ℕ → ℕ → ℕ → ℕ → Bool
fitting p n cells statuses = cells == cells_of p n && statuses == strips_in p n * 1

-- Where the element of strip k in row r stands: the cells of each strip one after another, strip by strip.
abbrev pub cell_at : ℕ → ℕ → ℕ → ℕ
cell_at p k r = k * (p - 1) + r

-- The strips that the buffers hold.
abbrev pub store_of : {E : Type 0} → E → ℕ → List E → List ℕ → Store E
store_of none p cells statuses = record { status = status_in 1 statuses; cell = λ k r. slice_index_or cells (cell_at p k r) none }

-- The buffers as a shelf: without strips where they have other lengths.
abbrev pub memory : {E : Type 0} → E → Geometry → List E → List ℕ → Meaning E
memory none g cells statuses = shelf_of (prime_of g) (stripes_of g) (fitting (prime_of g) (stripes_of g) (length cells) (length statuses)) (store_of none (prime_of g) cells statuses)

abbrev pub memory_of : {E : Type 0} → E → MemoryShelf E → Meaning E
memory_of none s = memory none s.geometry.now s.cells.now s.statuses.now

-- The buffers of the shelf have the lengths of its array.
abbrev pub fits_of : {E : Type 0} → MemoryShelf E → Bool
fits_of s = fitting (prime_of s.geometry.now) (stripes_of s.geometry.now) (length s.cells.now) (length s.statuses.now)

-- What the status byte of strip k says.
abbrev pub state_in : {E : Type 0} → MemoryShelf E → ℕ → State
state_in s k = state_for (status_in 1 s.statuses.now k)

-- The buffers fit, the strip at stripe i and column c is held, and its element in row r stands at index j of the cells.
pub record CellAt {E : Type 0} (s : MemoryShelf E) (i c r j : ℕ) : Type 0 where
  pub fits : fits_of s ≡ true
  pub has : HasStrip (prime_of s.geometry.now) (stripes_of s.geometry.now) i c
  pub row : r < prime_of s.geometry.now - 1
  pub held : state_in s (strip_number (prime_of s.geometry.now) i c) ≡ Held
  pub index : j ≡ cell_at (prime_of s.geometry.now) (strip_number (prime_of s.geometry.now) i c) r
  pub within : j < length s.cells.now

-- The loans that the shelf was made of.
abbrev pub loans : {E : Type 0} → MemoryShelf E → List GName
loans s = s.cells.ghost_name ∷ s.statuses.ghost_name ∷ []

-- There is no such cell, since the buffers do not fit, or there is no such strip or row, or the strip is out.
abbrev pub NoCell : {E : Type 0} → MemoryShelf E → ℕ → ℕ → ℕ → Type 0
NoCell s i c r = fits_of s ≡ true → HasStrip (prime_of s.geometry.now) (stripes_of s.geometry.now) i c → r < prime_of s.geometry.now - 1 → state_in s (strip_number (prime_of s.geometry.now) i c) ≡ Held → ⊥

-- The shelf s is laid over the buffers xs and bs: it has their contents, and writes there.
pub record Over {E : Type 0} (g : Geometry) (xs : MutBor (List E)) (bs : MutBor (List ℕ)) (s : MemoryShelf E) : Type 0 where
  pub geometry : s.geometry.now ≡ g
  pub cells : s.cells.now ≡ xs.now
  pub statuses : s.statuses.now ≡ bs.now
  pub lent : loans s ≡ xs.ghost_name ∷ bs.ghost_name ∷ []

-- When a shelf is refused: a buffer has another length.
pub data LengthStop (p n cells statuses : ℕ) : Stop → Type 0 where
  wrong_length : fitting p n cells statuses ≡ false → LengthStop p n cells statuses stop.Length

-- What the calls of a memory shelf leave in its buffers: s is the shelf before a call, and t after it.
use Rattle.std.specs.Prelude.{◌≡◌, ℕ, ◌<◌, ◌≤◌, true, false, ◌&&◌, nat_le, List, Result, MatchResult, slice_set}
use Rattle.tip_code.specs.Geometry.{prime_of, stripes_of}
use Rattle.tip_shelf.specs.Performing.{ShelfCall, state_call, get_call, put_call, erase_call, restore_call, pull_call, fit_call}
use Rattle.tip_shelf.specs.declared.shelf.Out.{Out}
use Rattle.tip_store.specs.Layout.{strip_number, Swept}
use Rattle.tip_store.specs.declared.status.Event.{Event}
use Rattle.tip_store.specs.declared.status.Event.TheVariants.{Pull, Fit}
use Rattle.tip_store.specs.Pasting.{Pasted}
use Rattle.tip_memory.specs.Memory.{cell_at, fits_of}
use Rattle.tip_memory.specs.declared.MemoryShelf.{MemoryShelf}

module _ {E : Type 0} (s t : MemoryShelf E) where
  -- Nothing is written.
  abbrev pub Untouched : Type 0
  Untouched = (t.cells.now ≡ s.cells.now) × (t.statuses.now ≡ s.statuses.now)

  -- The status byte of the strip at stripe i and column c is written, and no other byte.
  abbrev pub Marked : ℕ → ℕ → ℕ → Type 0
  Marked i c b = t.statuses.now ≡ slice_set s.statuses.now (strip_number (prime_of s.geometry.now) i c) b

  -- A put writes its one cell, or nothing where it says out.
  abbrev pub Puts : ℕ → ℕ → ℕ → E → Result (Unit {0}) Out → Type 0
  Puts i c r e result = MatchResult result (λ _. (t.cells.now ≡ slice_set s.cells.now (cell_at (prime_of s.geometry.now) (strip_number (prime_of s.geometry.now) i c) r) e) × (t.statuses.now ≡ s.statuses.now)) (λ _. Untouched)

  -- An erase writes its one status byte, or nothing where it says out.
  abbrev pub Erases : ℕ → ℕ → Result (Unit {0}) Out → Type 0
  Erases i c result = MatchResult result (λ _. (t.cells.now ≡ s.cells.now) × Marked i c 1) (λ _. Untouched)

  -- A restore writes the cells of its strip and the status byte, or nothing where it says out.
  abbrev pub Restores : E → ℕ → ℕ → List E → Result (Unit {0}) Out → Type 0
  Restores none i c es result = MatchResult result (λ _. Pasted none (cell_at (prime_of s.geometry.now) (strip_number (prime_of s.geometry.now) i c) 0) es s.cells.now t.cells.now × Marked i c 2) (λ _. Untouched)

  -- A pull or a fit writes status bytes alone, those of its device, and nothing where the buffers do not fit or the device is above p.
  pub record Serves (d : ℕ) (e : Event) : Type 0 where
    pub cells : t.cells.now ≡ s.cells.now
    pub statuses : fits_of s ≡ true → d ≤ prime_of s.geometry.now → Swept (prime_of s.geometry.now) (stripes_of s.geometry.now) 1 d e s.statuses.now t.statuses.now
    pub unfit : fits_of s ≡ false → t.statuses.now ≡ s.statuses.now
    pub beyond : prime_of s.geometry.now < d → t.statuses.now ≡ s.statuses.now

-- What a call of a memory shelf writes. Asking for a state and getting an element write nothing.
abbrev pub Writes : {E : Type 0} → E → MemoryShelf E → ShelfCall E → MemoryShelf E → Type 0
Writes none s (state_call i c a) t = Untouched s t
Writes none s (get_call i c r a) t = Untouched s t
Writes none s (put_call i c r e a) t = Puts s t i c r e a
Writes none s (erase_call i c a) t = Erases s t i c a
Writes none s (restore_call i c es a) t = Restores s t none i c es a
Writes none s (pull_call d) t = Serves s t d Pull
Writes none s (fit_call d a) t = Serves s t d Fit × (a ≡ (fits_of s && nat_le d (prime_of s.geometry.now)))

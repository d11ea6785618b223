-- Where strips stand in a store: stripe by stripe, column by column.
use Rattle.std.specs.Prelude.{◌≡◌, ℕ, ◌+◌, ◌*◌, ◌<◌, ◌≤◌, List, length, slice_index_or}
use Rattle.tip_store.specs.Status.{moved}
use Rattle.tip_store.specs.declared.layout.Spot.{Spot}
use Rattle.tip_store.specs.declared.status.Event.{Event}

-- How many strips an array has, with n stripes.
abbrev pub strips_in : ℕ → ℕ → ℕ
strips_in p n = (p + 1) * n

-- The number of the strip at stripe i and column c.
abbrev pub strip_number : ℕ → ℕ → ℕ → ℕ
strip_number p i c = i * (p + 1) + c

-- The array has a strip at stripe i and column c.
abbrev pub HasStrip : ℕ → ℕ → ℕ → ℕ → Type 0
HasStrip p n i c = (i < n) × (c ≤ p)

-- It has one there, with this number, and with its status byte at this index, where status bytes stand w apart.
pub record Spotted (p n w i c : ℕ) (s : Spot) : Type 0 where
  pub has : HasStrip p n i c
  pub number : s.number ≡ strip_number p i c
  pub below : s.number < strips_in p n
  pub status : s.status ≡ s.number * w
  pub within : s.status + w ≤ strips_in p n * w

-- The status byte of strip k, where status bytes stand w apart.
abbrev pub status_in : ℕ → List ℕ → ℕ → ℕ
status_in w bytes k = slice_index_or bytes (k * w) 0

-- An event has befallen device d of an array of n stripes, whose status bytes stand w apart: the status byte of each strip of column d is
-- what the event makes of it, and all other bytes are as they were.
pub record Swept (p n w d : ℕ) (e : Event) (xs ys : List ℕ) : Type 0 where
  pub size : length ys ≡ length xs
  pub there : (i : ℕ) → i < n → strip_number p i d * w < length xs → status_in w ys (strip_number p i d) ≡ moved e (status_in w xs (strip_number p i d))
  pub elsewhere : (k : ℕ) → ((i : ℕ) → i < n → k ≡ strip_number p i d * w → ⊥) → slice_index_or ys k 0 ≡ slice_index_or xs k 0

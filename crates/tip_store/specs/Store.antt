-- What a store means as a shelf: a status byte for each strip, and an element for each of its rows.
use Rattle.std.specs.Prelude.{ℕ, ◌-◌, Bool, true, cond, ◌&&◌, List, map, nat_lt, nat_le}
use Rattle.std.specs.List.{range_with_len}
use Rattle.tip_shelf.specs.Meaning.{Strip, held, blank, absent, Meaning}
use Rattle.tip_shelf.specs.declared.shelf.State.{State}
use Rattle.tip_shelf.specs.declared.shelf.State.TheVariants.{Held, Blank, Absent}
use Rattle.tip_store.specs.Layout.{strip_number}
use Rattle.tip_store.specs.Status.{state_for}

-- By the number of a strip its status byte, and by its number and a row its element.
pub record Store (E : Type 0) : Type 0 where
  pub status : ℕ → ℕ
  pub cell : ℕ → ℕ → E

-- A strip in this state, which holds these elements if it is held.
abbrev pub strip_in : {E : Type 0} → State → List E → Strip E
strip_in Held es = held es
strip_in Blank es = blank
strip_in Absent es = absent

-- The elements of strip k, row by row.
abbrev pub elements : {E : Type 0} → ℕ → Store E → ℕ → List E
elements p s k = map (s.cell k) (range_with_len 0 (p - 1))

-- Strip k as a shelf shows it.
abbrev pub shown : {E : Type 0} → ℕ → Store E → ℕ → Strip E
shown p s k = strip_in (state_for (s.status k)) (elements p s k)

-- The store as a shelf of n stripes: steady, and device c carries column c. A store whose buffers do not fit has no strips.
abbrev pub shelf_of : {E : Type 0} → ℕ → ℕ → Bool → Store E → Meaning E
shelf_of p n fits s = record {
  prime = p;
  stripes = n;
  strip = λ i c. cond (fits && (nat_lt i n && nat_le c p)) (shown p s (strip_number p i c)) absent;
  device = λ i c. c;
  steady = true;
}

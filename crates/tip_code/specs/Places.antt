-- Places: the data cells by number, from 0 on, row by row, columns ascending.
use Rattle.std.specs.Prelude.{◌≡◌, ℕ, ◌+◌, ◌<◌, ◌≤◌, true}
use Rattle.tip_element.specs.Counts.{join_below, count_below}
use Rattle.tip_code.specs.Geometry.{places_in}
use Rattle.tip_code.specs.Stripe.{data_cell}
use Rattle.tip_code.specs.declared.stop.Stop.{Stop}
use Rattle.tip_code.specs.declared.stop.Stop.TheVariants as stop

-- How many data cells come before (r, c): all those of the rows above, and those to its left.
unfoldable pub place_number : ℕ → ℕ → ℕ → ℕ
place_number p r c = join_below 0 ◌+◌ r (λ i. count_below p (data_cell p i)) + count_below c (data_cell p r)

-- Place n is the cell (r, c).
pub record Place (p n r c : ℕ) : Type 0 where
  pub holds : data_cell p r c ≡ true
  pub numbered : place_number p r c ≡ n

-- When a place is refused.
pub data PlaceStop (p n : ℕ) : Stop → Type 0 where
  no_place : places_in p ≤ n → PlaceStop p n stop.Place

-- Each place below (p - 1)(p - 2) is one cell, and each data cell is one place.
pub record Numbering (p : ℕ) : Type 0 where
  pub below : (n r c : ℕ) → Place p n r c → n < places_in p
  pub found : (n : ℕ) → n < places_in p → (r : ℕ) × (c : ℕ) × Place p n r c
  pub apart : (n r c s d : ℕ) → Place p n r c → Place p n s d → (r ≡ s) × (c ≡ d)

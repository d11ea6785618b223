-- Encoded stripes, by the three parity equations, and the encoding of given data.
use Rattle.std.specs.Prelude.{◌≡◌, ℕ, ◌+◌, ◌-◌, ◌<◌, ◌≤◌, cond, ◌==◌, ◌≢◌}
use Rattle.tip_element.specs.Counts.{join_below}
use Rattle.tip_code.specs.Geometry.{cells_in, places_in}
use Rattle.tip_code.specs.Places.{Place, place_number}
use Rattle.tip_code.specs.Stripe.{data_cell, crossing, parity_column}
use Rattle.tip_code.specs.declared.chain.Direction.{Direction}
use Rattle.tip_code.specs.declared.chain.Direction.TheVariants.{Row, Diagonal, Antidiagonal}
use Rattle.tip_code.specs.declared.stop.Stop.{Stop}
use Rattle.tip_code.specs.declared.stop.Stop.TheVariants as stop

-- The element of cell (r, c), or zero where that is a parity cell or in the row that does not exist.
abbrev pub datum : {E : Type 0} → E → ℕ → (ℕ → ℕ → E) → ℕ → ℕ → E
datum none p X r c = cond (data_cell p r c) (X r c) none

-- The join of the data cells of line i, over columns 0 to p - 1.
abbrev pub line_join : {E : Type 0} → E → (E → E → E) → ℕ → (ℕ → ℕ → E) → Direction → ℕ → E
line_join none join p X d i = join_below none join p (λ c. datum none p X (crossing p d i c) c)

-- The join of a chain: the parity of line i joined with the data cells on the line. It is zero in an encoded stripe.
abbrev pub chain_join : {E : Type 0} → E → (E → E → E) → ℕ → (ℕ → ℕ → E) → Direction → ℕ → E
chain_join none join p X d i = join (X i (parity_column p d i)) (line_join none join p X d i)

-- X is an encoded stripe: each parity is the join of the data cells on its row, diagonal or antidiagonal.
pub record Encoded {E : Type 0} (none : E) (join : E → E → E) (p : ℕ) (X : ℕ → ℕ → E) : Type 0 where
  pub row : (i : ℕ) → i < p - 1 → X i p ≡ line_join none join p X Row i
  pub diagonal : (i : ℕ) → i < p - 1 → X i (i + 1) ≡ line_join none join p X Diagonal i
  pub antidiagonal : (i : ℕ) → i < p - 1 → X i (p - 1 - i) ≡ line_join none join p X Antidiagonal i

-- X is the encoding of f: it is encoded, and holds f n at each place n.
pub record Encodes {E : Type 0} (none : E) (join : E → E → E) (p : ℕ) (f : ℕ → E) (X : ℕ → ℕ → E) : Type 0 where
  pub encoded : Encoded none join p X
  pub places : (n r c : ℕ) → Place p n r c → X r c ≡ f n

-- The encoding of f, cell by cell: a place holds its element, and any other cell the join of its line, which has the number
-- of its row.
unfoldable pub encoding : {E : Type 0} → E → (E → E → E) → ℕ → (ℕ → E) → ℕ → ℕ → E
encoding none join p f r c =
    cond (data_cell p r c) (f (place_number p r c))
    (line_join none join p (λ s d. f (place_number p s d))
    (cond (c == p) Row (cond (c == r + 1) Diagonal Antidiagonal)) r)

-- The encoding exists, and is the only one.
pub record OneEncoding {E : Type 0} (none : E) (join : E → E → E) (p : ℕ) : Type 0 where
  pub exists : (f : ℕ → E) → Encodes none join p f (encoding none join p f)
  pub only : (f : ℕ → E) (X Y : ℕ → ℕ → E) → Encodes none join p f X → Encodes none join p f Y → (r c : ℕ) → r < p - 1 → c ≤ p → X r c ≡ Y r c

-- When an encode is refused: the data or the stripe buffer has another length.
pub data EncodeStop (p places cells : ℕ) : Stop → Type 0 where
  values_length : (places ≢ places_in p) → EncodeStop p places cells stop.Length
  cells_length : (cells ≢ cells_in p) → EncodeStop p places cells stop.Length

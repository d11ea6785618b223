-- The strips of one stripe: v is the meaning of a shelf, and i the stripe.
use Rattle.std.specs.Prelude.{◌≡◌, ℕ, ◌+◌, ◌-◌, ◌<◌, Bool, true, ◌&&◌, ◌||◌, List, length, ◌==◌, slice_index_or}
use Rattle.tip_element.specs.Counts.{count_below}
use Rattle.tip_element.specs.Laws.{Exactly}
use Rattle.tip_code.specs.Geometry.{places_in}
use Rattle.tip_code.specs.Places.{Place}
use Rattle.tip_code.specs.Stripe.{line_of, parity_column, covers}
use Rattle.tip_code.specs.Encoding.{chain_join}
use Rattle.tip_code.specs.declared.chain.Direction.{Direction}
use Rattle.tip_code.specs.declared.chain.Direction.TheVariants.{Row, Diagonal, Antidiagonal}
use Rattle.tip_shelf.specs.Meaning.{Strip, held, blank, absent, Meaning, Within}
use Rattle.tip_shelf.specs.Calls.{is_held, is_out}
use Rattle.tip_gather.specs.Gathering.{outs}

-- The element of a strip at row r, or zero where it has none.
abbrev pub element : {E : Type 0} → E → Strip E → ℕ → E
element none (held es) r = slice_index_or es r none
element none blank r = none
element none absent r = none

-- The element of cell (r, c) of the stripe, or zero where its strip is out.
abbrev pub element_at : {E : Type 0} → E → Meaning E → ℕ → ℕ → ℕ → E
element_at none v i r c = element none (v.strip i c) r

-- The elements are those of column c of the stripe X, one for each of its p - 1 rows.
pub record IsColumn {E : Type 0} (none : E) (p : ℕ) (X : ℕ → ℕ → E) (c : ℕ) (es : List E) : Type 0 where
  pub sized : length es ≡ p - 1
  pub rows : (r : ℕ) → r < p - 1 → slice_index_or es r none ≡ X r c

-- Each held strip of the stripe is that column of X.
abbrev pub HeldAre : {E : Type 0} → E → Meaning E → ℕ → (ℕ → ℕ → E) → Type 0
HeldAre {E} none v i X = (c : ℕ) (es : List E) → Within v i c → v.strip i c ≡ held es → IsColumn none v.prime X c es

-- Place n of stripe i is lost: the array has it, and its strip and more than three of the stripe are out.
pub record Lost {E : Type 0} (v : Meaning E) (i n : ℕ) : Type 0 where
  pub stripe : i < v.stripes
  pub place : n < places_in v.prime
  pub out : (r c : ℕ) → Place v.prime n r c → is_out (v.strip i c) ≡ true
  pub many : 3 < outs v i

-- The cell (s, k) is the parity cell of the line of direction d through the data cell (r, c).
abbrev pub is_parity_of : ℕ → ℕ → ℕ → ℕ → ℕ → Direction → Bool
is_parity_of p r c s k d = s == line_of p d r c && k == parity_column p d s

-- A write to the data cell (r, c) concerns the cell (s, k): it is that cell, or the parity cell of a line through it.
abbrev pub concerned : ℕ → ℕ → ℕ → ℕ → ℕ → Bool
concerned p r c s k =
    (s == r && k == c)
    || (is_parity_of p r c s k Row || (is_parity_of p r c s k Diagonal || is_parity_of p r c s k Antidiagonal))

-- The cell (r, c) belongs to the chain of line l: it is its parity cell, or a data cell that this covers.
abbrev pub in_chain : ℕ → Direction → ℕ → ℕ → ℕ → Bool
in_chain p d l r c = (r == l && c == parity_column p d l) || covers p d l r c

-- The chain lies wholly in held strips of the stripe.
pub record Whole {E : Type 0} (v : Meaning E) (i : ℕ) (d : Direction) (l : ℕ) : Type 0 where
  pub held : (r c : ℕ) → in_chain v.prime d l r c ≡ true → is_held (v.strip i c) ≡ true

-- The join of its cells.
abbrev pub chain_join_at : {E : Type 0} → E → (E → E → E) → Meaning E → ℕ → Direction → ℕ → E
chain_join_at none join v i d l = chain_join none join v.prime (element_at none v i) d l

-- Of the numbers below n, k have the property P.
pub record Counted (n : ℕ) (P : ℕ → Type 0) (k : ℕ) : Type 0 where
  pub test : ℕ → Bool
  pub exact : (m : ℕ) → m < n → Exactly (test m) (P m)
  pub count : k ≡ count_below n test

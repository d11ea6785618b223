-- A stripe: p - 1 rows and p + 1 columns of cells. Which of them hold parity, which data, and the lines through them.
use Rattle.std.specs.Prelude.{◌≡◌, ℕ, ◌+◌, ◌-◌, ◌*◌, ◌%◌, ◌<◌, ◌≤◌, Bool, true, not, ◌&&◌, List, ◌==◌, nat_le, nat_lt, slice_index_or}
use Rattle.tip_code.specs.declared.chain.Cell.{Cell}
use Rattle.tip_code.specs.declared.chain.Direction.{Direction}
use Rattle.tip_code.specs.declared.chain.Direction.TheVariants.{Row, Diagonal, Antidiagonal}

-- The cell of row r and column c.
abbrev pub cell : ℕ → ℕ → Cell
cell r c = record { row = r; column = c }

-- Where cell (r, c) stands in a stripe buffer: column after column.
abbrev pub cell_index : ℕ → ℕ → ℕ → ℕ
cell_index p r c = c * (p - 1) + r

-- Cell (r, c) of the stripe stands at index i of its buffer.
pub record Stands (p r c i : ℕ) : Type 0 where
  pub row : r < p - 1
  pub column : c ≤ p
  pub index : i ≡ cell_index p r c
  pub within : i < (p - 1) * (p + 1)

-- What a stripe buffer holds at row r and column c.
abbrev pub stripe_of : {E : Type 0} → E → ℕ → List E → ℕ → ℕ → E
stripe_of none p cells r c = slice_index_or cells (cell_index p r c) none

-- The column of the parity of line i, which stands in row i: cell (i, p) is the parity of row i, cell (i, i + 1) that of
-- diagonal i, and cell (i, p - 1 - i) that of antidiagonal i, for each i from 0 to p - 2.
abbrev pub parity_column : ℕ → Direction → ℕ → ℕ
parity_column p Row i = p
parity_column p Diagonal i = i + 1
parity_column p Antidiagonal i = p - 1 - i

-- The parity cell of line i.
abbrev pub parity_cell : ℕ → Direction → ℕ → Cell
parity_cell p d i = cell i (parity_column p d i)

-- Every cell of the stripe that holds no parity holds data.
unfoldable pub data_cell : ℕ → ℕ → ℕ → Bool
data_cell p r c =
    nat_lt r (p - 1) && (nat_le c p && (not (c == parity_column p Row r)
    && (not (c == parity_column p Diagonal r) && not (c == parity_column p Antidiagonal r))))

-- The line of each direction on which the data cell (r, c) lies: row r, diagonal r + c, antidiagonal r - c, mod p.
abbrev pub line_of : ℕ → Direction → ℕ → ℕ → ℕ
line_of p Row r c = r
line_of p Diagonal r c = (r + c) % p
line_of p Antidiagonal r c = (r + (p - c)) % p

-- The row in which line i crosses column c. A diagonal or an antidiagonal may cross it at p - 1, a row that does not exist.
abbrev pub crossing : ℕ → Direction → ℕ → ℕ → ℕ
crossing p Row i c = i
crossing p Diagonal i c = (i + (p - c)) % p
crossing p Antidiagonal i c = (i + c) % p

-- A chain is the parity cell of line i with the data cells that it covers, those on the line.
abbrev pub covers : ℕ → Direction → ℕ → ℕ → ℕ → Bool
covers p d i r c = data_cell p r c && line_of p d r c == i

-- Every data cell lies on one line of each direction that has a parity, and that line crosses its column in its row alone.
pub record Lines (p : ℕ) : Type 0 where
  pub one : (d : Direction) (r c : ℕ) → data_cell p r c ≡ true → line_of p d r c < p - 1
  pub meets : (d : Direction) (i r c : ℕ) → i < p → data_cell p r c ≡ true → line_of p d r c ≡ i → crossing p d i c ≡ r
  pub alone : (d : Direction) (i r c : ℕ) → i < p → data_cell p r c ≡ true → crossing p d i c ≡ r → line_of p d r c ≡ i

-- Chains are counted direction by direction, p - 1 lines each.
abbrev pub chains_in : ℕ → ℕ
chains_in p = 3 * (p - 1)

abbrev pub rank : Direction → ℕ
rank Row = 0
rank Diagonal = 1
rank Antidiagonal = 2

-- The chain of line i of direction d has this number.
pub record Numbered (p : ℕ) (d : Direction) (i n : ℕ) : Type 0 where
  pub line : i < p - 1
  pub number : rank d * (p - 1) + i ≡ n

-- A write to the data cell (r, c) concerns, besides itself, the parity cells of its row, its diagonal and its antidiagonal.
pub record Concerned (p r c : ℕ) (row diagonal antidiagonal : Cell) : Type 0 where
  pub holds : data_cell p r c ≡ true
  pub by_row : row ≡ parity_cell p Row (line_of p Row r c)
  pub by_diagonal : diagonal ≡ parity_cell p Diagonal (line_of p Diagonal r c)
  pub by_antidiagonal : antidiagonal ≡ parity_cell p Antidiagonal (line_of p Antidiagonal r c)

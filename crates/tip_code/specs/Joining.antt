-- Encoding at a prime that is known: what each step leaves for the next.
use Rattle.std.specs.Prelude.{◌≡◌, ℕ, ◌+◌, ◌-◌, ◌*◌, ◌<◌, min, true, cond, ◌==◌, List, ◌≢◌, slice_index_or}
use Rattle.tip_element.specs.Counts.{join_below}
use Rattle.tip_code.specs.Encoding.{datum, line_join}
use Rattle.tip_code.specs.Places.{place_number}
use Rattle.tip_code.specs.Stripe.{cell_index, crossing, data_cell, parity_column}
use Rattle.tip_code.specs.declared.chain.Direction.{Direction}
use Rattle.tip_code.specs.declared.chain.Direction.TheVariants.{Row, Diagonal, Antidiagonal}

-- The join of the data cells of line i in the columns below c, or below p.
abbrev pub joined_to : {E : Type 0} → E → (E → E → E) → ℕ → (ℕ → ℕ → E) → Direction → ℕ → ℕ → E
joined_to none join p X d i c = join_below none join (min c p) (λ k. datum none p X (crossing p d i k) k)

-- The join of the cells of row i in the columns below c, or below p.
abbrev pub row_to : {E : Type 0} → E → (E → E → E) → ℕ → (ℕ → ℕ → E) → ℕ → ℕ → E
row_to none join p X i c = join_below none join (min c p) (X i)

-- ys holds the joins of the rows below column p, with the parity cells of the diagonals and antidiagonals.
abbrev pub WholeRows : {E : Type 0} → E → (E → E → E) → ℕ → (ℕ → ℕ → E) → List E → Type 0
WholeRows none join p X ys = (i : ℕ) → i < p - 1 → slice_index_or ys i none ≡ join_below none join p (X i)

-- The direction of a rank.
abbrev pub ranked : ℕ → Direction
ranked n = cond (n == 0) Row (cond (n == 1) Diagonal Antidiagonal)

-- Of the lines below n that a direction has, ys holds the joins, in their order.
abbrev pub LinesJoined : {E : Type 0} → E → (E → E → E) → ℕ → (ℕ → ℕ → E) → Direction → ℕ → List E → Type 0
LinesJoined none join p X d n ys =
    (i : ℕ) → i < n → i < p - 1 → slice_index_or ys i none ≡ line_join none join p X d i

-- Y is X with the parities of direction d set: each is the join of the data cells that X has on its line. Of the other
-- cells, those below column p stay.
pub record Filled {E : Type 0} (none : E) (join : E → E → E) (p : ℕ) (d : Direction) (X Y : ℕ → ℕ → E) : Type 0 where
  pub set : (i : ℕ) → i < p - 1 → Y i (parity_column p d i) ≡ line_join none join p X d i
  pub kept : (r c : ℕ) → r < p - 1 → c < p → c ≢ parity_column p d r → Y r c ≡ X r c

-- The data cells that stand below index m of the buffer hold f, each at its place.
abbrev pub Placed : {E : Type 0} → ℕ → (ℕ → E) → ℕ → (ℕ → ℕ → E) → Type 0
Placed p f m X = (r c : ℕ) → data_cell p r c ≡ true → cell_index p r c < m → X r c ≡ f (place_number p r c)

-- Where the columns before c are held, column c is too, if there is such a column.
abbrev pub PlacesColumn : {E : Type 0} → ℕ → (ℕ → E) → ℕ → (ℕ → ℕ → E) → (ℕ → ℕ → E) → Type 0
PlacesColumn p f c X Y = Placed p f (min c p * (p - 1)) X → Placed p f (min (c + 1) p * (p - 1)) Y

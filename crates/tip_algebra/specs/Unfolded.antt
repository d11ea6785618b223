-- A column of a stripe unfolded over p indices, so that the three kinds of line are plain shifts.
use Rattle.std.specs.Prelude.{ℕ, ◌-◌, ◌%◌, cond, ◌==◌}
use Rattle.tip_code.specs.Encoding.{datum}
use Rattle.tip_algebra.specs.Cyclic.{opposite}

-- The diagonal parity that stands in column c. Column 0 has none: zero.
abbrev pub diagonal_parity : {E : Type 0} → E → (ℕ → ℕ → E) → ℕ → E
diagonal_parity none X c = cond (c == 0) none (X (c - 1) c)

-- Column c unfolded: its data cells at their rows, zero at its parity cells, and its diagonal parity at p - 1, the row that
-- does not exist.
unfoldable pub unfolded : {E : Type 0} → E → ℕ → (ℕ → ℕ → E) → ℕ → ℕ → E
unfolded none p X c i = cond (i % p == p - 1) (diagonal_parity none X c) (datum none p X (i % p) c)

-- The two parities that stand in column c, diagonal and antidiagonal, joined. Column 0 has none: zero.
unfoldable pub excess : {E : Type 0} → E → (E → E → E) → ℕ → (ℕ → ℕ → E) → ℕ → E
excess none join p X c = cond (c == 0) none (join (X (c - 1) c) (X (p - 1 - c) c))

-- An element at p - 1, and zero at the other indices of a turn.
unfoldable pub at_last : {E : Type 0} → E → ℕ → E → ℕ → E
at_last none p e i = cond (i % p == p - 1) e none

-- Column c unfolded with its antidiagonal parity at p - 1 in place of the diagonal one.
abbrev pub unfolded_anti : {E : Type 0} → E → (E → E → E) → ℕ → (ℕ → ℕ → E) → ℕ → ℕ → E
unfolded_anti none join p X c i = join (unfolded none p X c i) (at_last none p (excess none join p X c) i)

-- Column c unfolded and joined with its mirror image: the same seen from either end, with the excess at p - 1.
abbrev pub folded : {E : Type 0} → E → (E → E → E) → ℕ → (ℕ → ℕ → E) → ℕ → ℕ → E
folded none join p X c i = join (unfolded none p X c i) (unfolded_anti none join p X c (opposite p i))

-- Unfolding a column in a list, and folding it back.
use Rattle.std.proofs.Common.{◌≡◌, ℕ, ◌+◌, ◌-◌, ◌<◌, ◌≤◌, List, [], ◌∷◌, length, get_or, set, cond, eqb, ◌∙◌, arith, length-set, get_or-set_other, get_or-set_same, ◌%◌}
use Rattle.std.proofs.lemmas.Bool.Decides.{nat_tests}
use Rattle.std.proofs.lemmas.Bool.{cases_eq}
use Rattle.tip_element.specs.Laws.{Laws}
use Rattle.tip_code.proofs.Cells.{data_from}
use Rattle.tip_code.proofs.Data.{datum_in}
use Rattle.tip_algebra.specs.Cyclic.{Holds}
use Rattle.tip_algebra.specs.Unfolded.{unfolded, excess}
use Rattle.tip_algebra.proofs.Decided.{diagonal_top, excess_past}
use Rattle.tip_algebra.proofs.Group.{v, ◌⊕◌, ◌≐◌, solveBy}
use Rattle.tip_algebra.proofs.Rules.{unfolded_at, unfolded_zero}

module _ {E : Type 0} {none : E} {join : E → E → E} (laws : Laws none join) (p : ℕ) (X : ℕ → ℕ → E) (c : ℕ) (low : c < p) where
  -- a row that holds no parity of the column
  row_data : (r : ℕ) → r < p - 1 → (c ≡ r + 1 → ⊥) → (c ≡ p - 1 - r → ⊥) → unfolded none p X c r ≡ X r c
  row_data r h d a =
      unfolded_at none p X c r h ∙ datum_in none p X r c (data_from p r c (record { row = h; column = low; diagonal = d; antidiagonal = a }))

  -- column 0 holds data alone
  pub fold_first : (xs : List E) → c ≡ 0 → Holds none p xs (unfolded none p X c) → (r : ℕ) → r < p - 1 → get_or xs r none ≡ X r c
  fold_first xs first held r h = held r (omega arith) ∙ row_data r h (λ k. omega arith) (λ k. omega arith)

  -- any other column has a parity in rows c - 1 and p - 1 - c
  pub fold_other : (xs : List E) (top e y : E) → p ≤ length xs → 0 < c → Holds none p xs (unfolded none p X c)
      → top ≡ get_or xs (p - 1) none → e ≡ excess none join p X c → y ≡ join top e → (r : ℕ) → r < p - 1
      → get_or (set (set xs (c - 1) top) (p - 1 - c) y) r none ≡ X r c
  fold_other xs top e y long some held et ee ey r h =
      let diagonal : top ≡ X (c - 1) c = et ∙ held (p - 1) (omega arith) ∙ diagonal_top laws p X c some low in
      let antidiagonal : y ≡ X (p - 1 - c) c =
      ey ∙ solveBy laws (top ∷ e ∷ X (c - 1) c ∷ X (p - 1 - c) c ∷ []) (v 0 ⊕ v 1) (v 3) ((v 0 ≐ v 2) ∷ (v 1 ≐ v 2 ⊕ v 3) ∷ []) tt (diagonal, (ee ∙ excess_past laws p X c some, tt)) in
      grind (arith, length-set {A = E}, get_or-set_same {A = E}, get_or-set_other {A = E}, row_data r, held r, cases_eq r (p - 1 - c), cases_eq r (c - 1))

  -- the rows of an unfolded column, with the diagonal parity put back
  pub row_up_to : p % 2 ≡ 1 → (xs : List E) → Holds none p xs (unfolded none p X c) → (r : ℕ) → r < p - 1
      → (c ≡ r + 1 → ⊥) → get_or xs r none ≡ cond (eqb r (p - 1 - c)) none (X r c)
  row_up_to odd xs held r h d =
      grind (arith, nat_tests, held r (omega arith), unfolded_zero none p X c low, row_data r h d)

  pub top_up_to : p % 2 ≡ 1 → 0 < c → (xs : List E) → Holds none p xs (unfolded none p X c)
      → get_or xs (p - 1) none ≡ cond (eqb (c - 1) (p - 1 - c)) none (X (c - 1) c)
  top_up_to odd some xs held =
      grind (arith, nat_tests, held (p - 1) (omega arith), diagonal_top laws p X c some low)

-- The constant that a division leaves open.
use Rattle.std.proofs.Common.{◌≡◌, ℕ, ◌<◌, List, [], ◌∷◌, get_or, ap, ◌∙◌}
use Rattle.tip_element.specs.Laws.{Laws}
use Rattle.tip_element.proofs.Joins.{right}
use Rattle.tip_algebra.specs.Cyclic.{Holds, Divided}
use Rattle.tip_algebra.proofs.Group.{v, ◌⊕◌, solve}

module _ {E : Type 0} {none : E} {join : E → E → E} (laws : Laws none join) where
  -- a division, with the constant joined in again
  pub fixed : (p k : ℕ) (y x : List E) (c : E) (s : ℕ → E) → Divided none join p k y s → c ≡ s k
      → ((i : ℕ) → i < p → get_or x i none ≡ join (get_or y i none) c) → Holds none p x s
  fixed p k y x c s d e h i l =
      h i l ∙ ap (λ a. join a c) (d i l) ∙ ap (join (join (s i) (s k))) e
      ∙ solve laws (s i ∷ s k ∷ []) ((v 0 ⊕ v 1) ⊕ v 1) (v 0) tt

  -- where the column has a zero, a division from there on leaves none open
  pub from_zero : (p k : ℕ) (y : List E) (s : ℕ → E) → Divided none join p k y s → s k ≡ none → Holds none p y s
  from_zero p k y s d e i l = d i l ∙ ap (join (s i)) e ∙ right laws (s i)

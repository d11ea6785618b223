-- What lies on a line, and its join: they turn on the data cells alone.
use Rattle.std.proofs.Common.{◌≡◌, ℕ, Bool, true, false, cond, refl}
use Rattle.std.proofs.lemmas.Bool.{cond-true, cond-false}
use Rattle.tip_element.proofs.Joins.{join_same}
use Rattle.tip_code.specs.Encoding.{datum, line_join}
use Rattle.tip_code.specs.Stripe.{data_cell, crossing}
use Rattle.tip_code.specs.declared.chain.Direction.{Direction}

module _ {E : Type 0} (none : E) where
  -- a datum turns on the data cells alone
  pub datum_same : (p : ℕ) (X Y : ℕ → ℕ → E) (r c : ℕ) → (data_cell p r c ≡ true → X r c ≡ Y r c) → datum none p X r c ≡ datum none p Y r c
  datum_same p X Y r c e = go (data_cell p r c) e
    where
      go : (b : Bool) → (b ≡ true → X r c ≡ Y r c) → cond b (X r c) none ≡ cond b (Y r c) none
      go true h = h refl
      go false h = refl

  pub datum_in : (p : ℕ) (X : ℕ → ℕ → E) (r c : ℕ) → data_cell p r c ≡ true → datum none p X r c ≡ X r c
  datum_in p X r c t = cond-true (data_cell p r c) (X r c) none t

  pub datum_out : (p : ℕ) (X : ℕ → ℕ → E) (r c : ℕ) → data_cell p r c ≡ false → datum none p X r c ≡ none
  datum_out p X r c t = cond-false (data_cell p r c) (X r c) none t

module _ {E : Type 0} (none : E) (join : E → E → E) where
  -- and so does a line's join
  pub line_same : (p : ℕ) (X Y : ℕ → ℕ → E) (d : Direction) (i : ℕ) → ((r c : ℕ) → data_cell p r c ≡ true → X r c ≡ Y r c) → line_join none join p X d i ≡ line_join none join p Y d i
  line_same p X Y d i e = join_same none join p _ _ (λ c _. datum_same none p X Y (crossing p d i c) c (e (crossing p d i c) c))

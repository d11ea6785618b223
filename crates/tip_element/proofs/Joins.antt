-- Finite joins: equal terms, and one term more.
use Rattle.std.proofs.Common.{◌≡◌, ℕ, zero, suc, ◌+◌, ◌<◌, sym, refl, ap, ◌∙◌, add-one, arith}
use Rattle.tip_element.specs.Counts.{join_below}
use Rattle.tip_element.specs.Laws.{Laws}

module _ {E : Type 0} (none : E) (join : E → E → E) where
  -- the terms below n are all that counts
  pub join_same : (n : ℕ) (f h : ℕ → E) → ((i : ℕ) → i < n → f i ≡ h i) → join_below none join n f ≡ join_below none join n h
  join_same zero f h e = refl
  join_same (suc n) f h e =
      ap (λ x. join x (f n)) (join_same n f h (λ i k. e i (omega arith))) ∙ ap (join (join_below none join n h)) (e n (omega arith))

module _ {E : Type 0} {none : E} {join : E → E → E} (laws : Laws none join) where
  pub right : (x : E) → join x none ≡ x
  right x = laws.comm x none ∙ laws.neutral x

  -- a loop's step: one term more, or one that is zero
  pub join_more : (n : ℕ) (f : ℕ → E) (a x : E) → a ≡ join_below none join n f → x ≡ f n → join a x ≡ join_below none join (n + 1) f
  join_more n f a x before here = rw add-one (ap (λ b. join b x) before ∙ ap (join (join_below none join n f)) here)

  pub join_skip : (n : ℕ) (f : ℕ → E) (a : E) → a ≡ join_below none join n f → f n ≡ none → a ≡ join_below none join (n + 1) f
  join_skip n f a before here =
      rw add-one (before ∙ sym (right (join_below none join n f)) ∙ ap (join (join_below none join n f)) (sym here))

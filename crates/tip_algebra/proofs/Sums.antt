-- The laws of finite joins.
use Rattle.std.proofs.Common.{◌≡◌, ℕ, zero, suc, ◌+◌, ◌/◌, ◌%◌, ◌<◌, eqb, [], ◌∷◌, sym, refl, ap, ◌∙◌, ⊎_elim, not-suc-le-zero, add-zero, zero-add, arith}
use Rattle.std.proofs.lemmas.Bool.Decides.{nat_tests}
use Rattle.std.proofs.lemmas.Bool.{cases_eq}
use Rattle.tip_element.specs.Laws.{Laws}
use Rattle.tip_element.specs.Counts.{join_below}
use Rattle.tip_element.proofs.Joins.{join_same}
use Rattle.tip_algebra.specs.Known.{except}
use Rattle.tip_algebra.proofs.Group.{o, v, ◌⊕◌, middle, ◌≐◌, solveBy}

module _ {E : Type 0} {none : E} {join : E → E → E} (laws : Laws none join) where
  pub sum_join : (n : ℕ) (f h : ℕ → E) → join_below none join n (λ i. join (f i) (h i)) ≡ join (join_below none join n f) (join_below none join n h)
  sum_join zero f h = sym (laws.neutral none)
  sum_join (suc n) f h =
      ap (λ x. join x (join (f n) (h n))) (sum_join n f h) ∙ middle laws (join_below none join n f) (join_below none join n h) (f n) (h n)

  pub sum_none : (n : ℕ) → join_below none join n (λ _. none) ≡ none
  sum_none zero = refl
  sum_none (suc n) = ap (λ x. join x none) (sum_none n) ∙ laws.neutral none

  -- terms that are all zero
  pub sum_zero : (n : ℕ) (f : ℕ → E) → ((i : ℕ) → i < n → f i ≡ none) → join_below none join n f ≡ none
  sum_zero n f e = join_same none join n f (λ _. none) e ∙ sum_none n

  pub sum_take : (n : ℕ) (k : ℕ) (f : ℕ → E) → k < n → join_below none join n f ≡ join (f k) (join_below none join n (except none (λ m. eqb m k) f))
  sum_take zero k f h = absurd (not-suc-le-zero h)
  sum_take (suc n) k f h =
      let rest = except none (λ m. eqb m k) f in
      let atoms = join_below none join n f ∷ join_below none join n rest ∷ f n ∷ f k ∷ rest n ∷ [] in
      ⊎_elim
      (λ e. solveBy laws atoms (v 0 ⊕ v 2) (v 3 ⊕ (v 1 ⊕ v 4)) ((v 0 ≐ v 1) ∷ (v 2 ≐ v 3) ∷ (v 4 ≐ o) ∷ []) tt
      (join_same none join n f rest (λ i l. grind (arith, nat_tests)), (ap f e, (grind (arith, nat_tests), tt))))
      (λ e. solveBy laws atoms (v 0 ⊕ v 2) (v 3 ⊕ (v 1 ⊕ v 4)) ((v 0 ≐ v 3 ⊕ v 1) ∷ (v 2 ≐ v 4) ∷ []) tt
      (sum_take n k f (omega arith), (grind (arith, nat_tests), tt)))
      (cases_eq n k)

  pub sum_swap : (n m : ℕ) (f : ℕ → ℕ → E) → join_below none join n (λ i. join_below none join m (λ j. f i j)) ≡ join_below none join m (λ j. join_below none join n (λ i. f i j))
  sum_swap zero m f = sym (sum_none m)
  sum_swap (suc n) m f =
      ap (λ x. join x (join_below none join m (λ j. f n j))) (sum_swap n m f)
      ∙ sym (sum_join m (λ j. join_below none join n (λ i. f i j)) (λ j. f n j))

  -- the first one in front
  pub sum_front : (n : ℕ) (f : ℕ → E) → join_below none join (suc n) f ≡ join (f 0) (join_below none join n (λ i. f (suc i)))
  sum_front zero f = laws.comm none (f 0)
  sum_front (suc n) f =
      ap (λ x. join x (f (suc n))) (sum_front n f) ∙ laws.assoc (f 0) (join_below none join n (λ i. f (suc i))) (f (suc n))

  sum_shift1 : (n : ℕ) (f : ℕ → E) → f n ≡ f 0 → join_below none join n (λ i. f (suc i)) ≡ join_below none join n f
  sum_shift1 n f e =
      solveBy laws (join_below none join n (λ i. f (suc i)) ∷ join_below none join n f ∷ f 0 ∷ f n ∷ []) (v 0) (v 1)
      ((v 1 ⊕ v 3 ≐ v 2 ⊕ v 0) ∷ (v 3 ≐ v 2) ∷ []) tt (sum_front n f, (e, tt))

  -- a join_below over a whole period, from any index on
  pub sum_shift : (n k : ℕ) (f : ℕ → E) → ((i : ℕ) → f (i + n) ≡ f i) → join_below none join n (λ i. f (i + k)) ≡ join_below none join n f
  sum_shift n zero f per = join_same none join n (λ i. f (i + 0)) f (λ i _. ap f (add-zero i))
  sum_shift n (suc k) f per =
      join_same none join n (λ i. f (i + suc k)) (λ i. f (suc i + k)) (λ i _. ap f (omega arith))
      ∙ sum_shift1 n (λ i. f (i + k)) (ap f (omega arith) ∙ per k ∙ ap f (sym (zero-add k)))
      ∙ sum_shift n k f per

  -- the same element an even number of times, and an odd one
  sum_even : (k : ℕ) (c : E) → join_below none join (k + k) (λ _. c) ≡ none
  sum_even zero c = refl
  sum_even (suc k) c =
      let e : suc k + suc k ≡ suc (suc (k + k)) = omega arith in
      rw e (cc (sum_even k c, laws.neutral c, laws.cancel c))

  pub sum_odd : (n : ℕ) (c : E) → n % 2 ≡ 1 → join_below none join n (λ _. c) ≡ c
  sum_odd n c h =
      let e : n ≡ suc (n / 2 + n / 2) = omega arith in
      rw e (cc (sum_even (n / 2) c, laws.neutral c))

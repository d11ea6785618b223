-- From the joins of the chains of a stripe without its unknown columns to the sums of its known ones.
use Rattle.std.proofs.Common.{◌≡◌, ℕ, zero, suc, ◌+◌, ◌-◌, ◌%◌, ◌<◌, Bool, true, false, cond, List, [], ◌∷◌, get_or, sym, refl, ap, ◌∙◌, ⊎_elim, mod-eq_of_lt, arith}
use Rattle.std.proofs.lemmas.Bool.{cases_eq, cases_Bool}
use Rattle.tip_element.specs.Laws.{Laws}
use Rattle.tip_element.specs.Counts.{join_below}
use Rattle.tip_element.proofs.Joins.{join_same}
use Rattle.tip_code.specs.Primes.{PrimeFacts}
use Rattle.tip_code.specs.Encoding.{line_join, chain_join}
use Rattle.tip_code.specs.declared.chain.Direction.TheVariants.{Row, Diagonal, Antidiagonal}
use Rattle.tip_algebra.specs.Known.{except, KnownSums, ChainJoins}
use Rattle.tip_algebra.specs.Unfolded.{unfolded, excess, at_last, unfolded_anti}
use Rattle.tip_algebra.proofs.Decided.{zero_unfolded, zero_anti}
use Rattle.tip_algebra.proofs.Group.{v, ◌⊕◌, ◌≐◌, solveBy}
use Rattle.tip_algebra.proofs.Rules.{unfolded_per, unfolded_same, excess_same, at_last_top, at_last_off, anti_per, along_diagonal, along_last_diagonal, along_antidiagonal, along_last_antidiagonal, along_row, turn_same, sum_last}
use Rattle.tip_algebra.proofs.Sums.{sum_join, sum_zero}

-- The list of f 0 to f (n - 1).
abbrev pub listed_to : {E : Type 0} → ℕ → (ℕ → E) → List E
listed_to zero f = []
listed_to (suc n) f = f 0 ∷ listed_to n (λ i. f (suc i))

pub listed_at : {E : Type 0} (none : E) (n : ℕ) (f : ℕ → E) (i : ℕ) → i < n → get_or (listed_to n f) i none ≡ f i
listed_at none zero f i h = absurd (omega arith)
listed_at none (suc n) f zero h = refl
listed_at none (suc n) f (suc i) h = listed_at none n (λ k. f (suc k)) i (omega arith)

-- Z is the stripe W with zeros in the columns below p that t picks.
module _ {E : Type 0} {none : E} {join : E → E → E} (laws : Laws none join) (p : ℕ) (prime : PrimeFacts p)
    (t : ℕ → Bool) (W Z : ℕ → ℕ → E) (agree : (c : ℕ) → c < p → t c ≡ false → (r : ℕ) → r < p - 1 → Z r c ≡ W r c)
    (gone : (c : ℕ) → c < p → t c ≡ true → (r : ℕ) → r < p - 1 → Z r c ≡ none) where
  left_plain : (c i : ℕ) → c < p → unfolded none p Z c i ≡ cond (t c) none (unfolded none p W c i)
  left_plain c i l =
      grind (
        arith,
        cases_Bool (t c),
        λ (o : t c ≡ false). unfolded_same none p Z W c l (agree c l o) i,
        λ
            (o : t c ≡ true). zero_unfolded laws p Z c l (gone c l o) i,
      )

  left_anti : (c i : ℕ) → c < p → unfolded_anti none join p Z c i ≡ cond (t c) none (unfolded_anti none join p W c i)
  left_anti c i l =
      let same : t c ≡ false → unfolded_anti none join p Z c i ≡ unfolded_anti none join p W c i =
      λ o. cc (unfolded_same none p Z W c l (agree c l o) i, excess_same none p join Z W c l (agree c l o)) in
      grind (arith, cases_Bool (t c), same, λ (o : t c ≡ true). zero_anti laws p Z c l (gone c l o) i)

  pub known_diagonal : (d : List E) → ChainJoins none join p Z Diagonal d → (i : ℕ) → i < p
      → get_or d i none ≡ join_below none join p (except none t (λ c. unfolded none p W c (i + (p - c))))
  known_diagonal d is i l =
      ⊎_elim
      (λ (e : i ≡ p - 1). rw e (is.last ∙ sym (along_last_diagonal laws p prime Z) ∙ join_same none join p _ _
      (λ c b. left_plain c (p - 1 + (p - c)) b)))
      (λ (e : i ≡ p - 1 → ⊥).
      is.chain i (omega arith) ∙ sym (along_diagonal laws p prime Z i (omega arith)) ∙ join_same none join p _ _
      (λ c b. left_plain c (i + (p - c)) b))
      (cases_eq i (p - 1))

  pub known_antidiagonal : (a : List E) → ChainJoins none join p Z Antidiagonal a → (i : ℕ) → i < p
      → get_or a i none ≡ join_below none join p (except none t (λ c. unfolded_anti none join p W c (i + c)))
  known_antidiagonal a is i l =
      ⊎_elim
      (λ (e : i ≡ p - 1). rw e (is.last ∙ sym (along_last_antidiagonal laws p prime Z) ∙ join_same none join p _ _
      (λ c b. left_anti c (p - 1 + c) b)))
      (λ (e : i ≡ p - 1 → ⊥).
      is.chain i (omega arith) ∙ sym (along_antidiagonal laws p prime Z i (omega arith)) ∙ join_same none join p _ _
      (λ c b. left_anti c (i + c) b))
      (cases_eq i (p - 1))

  -- what the known columns join to in a row
  abbrev pub across : ℕ → E
  across i = join_below none join p (except none t (λ c. unfolded none p W c i))

  pub known_row : (i : ℕ) → i < p - 1 → Z i p ≡ W i p → (x : E) → x ≡ chain_join none join p Z Row i
      → x ≡ join (across i) (W i p)
  known_row i l same x is =
      let row : line_join none join p Z Row i ≡ across i =
      sym (along_row laws p prime Z i l) ∙ join_same none join p _ _ (λ c b. left_plain c i b) in
      is ∙ ap (λ y. join y (line_join none join p Z Row i)) same ∙ ap (join (W i p)) row ∙ laws.comm (W i p) (across i)

  -- over a whole turn the diagonals have what the rows have
  turn_diagonal : (d : List E) → ChainJoins none join p Z Diagonal d
      → join_below none join p (λ i. get_or d i none) ≡ join_below none join p across
  turn_diagonal d is =
      join_same none join p _ _ (λ i l. known_diagonal d is i l)
      ∙ turn_same laws p (λ c i. cond (t c) none (unfolded none p W c i)) (λ c. p - c)
      (λ c i. ap (λ x. cond (t c) none x) (unfolded_per none p W c i))

  -- and the antidiagonals the excesses besides
  turn_antidiagonal : (a : List E) → ChainJoins none join p Z Antidiagonal a
      → join_below none join p (λ i. get_or a i none) ≡ join (join_below none join p across)
      (join_below none join p (except none t (λ c. excess none join p W c)))
  turn_antidiagonal a is =
      let U = λ (c i : ℕ). cond (t c) none (unfolded none p W c i) in
      let L = λ (c i : ℕ). cond (t c) none (at_last none p (excess none join p W c) i) in
      let low : (i : ℕ) → i < p - 1 → join_below none join p (λ c. L c i) ≡ none =
      λ i l. let m : i % p ≡ i = mod-eq_of_lt (omega arith) in
      sum_zero laws p _ (λ c _. ap (λ x. cond (t c) none x)
      (at_last_off none p (excess none join p W c) i (omega arith)) ∙ grind arith) in
      let top : join_below none join p (λ c. L c (p - 1))
      ≡ join_below none join p (except none t (λ c. excess none join p W c)) =
      join_same none join p _ _ (λ c _. ap (λ x. cond (t c) none x)
      (at_last_top none p (excess none join p W c) (p - 1) (mod-eq_of_lt (omega arith)))) in
      join_same none join p _ _ (λ i l. known_antidiagonal a is i l)
      ∙ turn_same laws p (λ c i. cond (t c) none (unfolded_anti none join p W c i)) (λ c. c)
      (λ c i. ap (λ x. cond (t c) none x) (anti_per none join p W c i))
      ∙ join_same none join p _ _ (λ i _. join_same none join p _ _
      (λ c _. grind (arith, laws.neutral none)) ∙ sum_join laws p (λ c. U c i) (λ c. L c i))
      ∙ sum_join laws p across (λ i. join_below none join p (λ c. L c i))
      ∙ ap (join (join_below none join p across))
      (sum_last laws p (λ i. join_below none join p (λ c. L c i)) (omega arith)
      ∙ ap (λ x. join x (join_below none join p (λ c. L c (p - 1)))) (sum_zero laws (p - 1) _ low)
      ∙ laws.neutral _ ∙ top)

  -- so the excesses of the known columns are told by all chains of these two directions
  pub known_excess : (d a : List E) (x y e : E) → ChainJoins none join p Z Diagonal d
      → ChainJoins none join p Z Antidiagonal a → x ≡ join_below none join p (λ i. get_or d i none)
      → y ≡ join_below none join p (λ i. get_or a i none) → e ≡ join x y
      → e ≡ join_below none join p (except none t (λ c. excess none join p W c))
  known_excess d a x y e hd ha ex ey ee =
      let s = join_below none join p (except none t (λ c. excess none join p W c)) in
      solveBy laws (e ∷ x ∷ y ∷ join_below none join p across ∷ s ∷ []) (v 0) (v 4)
      ((v 0 ≐ v 1 ⊕ v 2) ∷ (v 1 ≐ v 3) ∷ (v 2 ≐ v 3 ⊕ v 4) ∷ []) tt
      (ee, (ex ∙ turn_diagonal d hd, (ey ∙ turn_antidiagonal a ha, tt)))

  -- and what the diagonal parities and the row parities join to by all rows and diagonals
  pub known_last : (d r : List E) (x y e : E) → ChainJoins none join p Z Diagonal d
      → ((i : ℕ) → i < p - 1 → get_or r i none ≡ join (across i) (W i p))
      → x ≡ join_below none join (p - 1) (λ i. get_or r i none) → y ≡ join_below none join p (λ i. get_or d i none)
      → e ≡ join x y → e ≡ join (across (p - 1)) (join_below none join (p - 1) (λ i. W i p))
  known_last d r x y e hd hr ex ey ee =
      let s = join_below none join (p - 1) (λ i. W i p) in
      let low = join_below none join (p - 1) across in
      solveBy laws (e ∷ x ∷ y ∷ low ∷ s ∷ across (p - 1) ∷ []) (v 0) (v 5 ⊕ v 4)
      ((v 0 ≐ v 1 ⊕ v 2) ∷ (v 1 ≐ v 3 ⊕ v 4) ∷ (v 2 ≐ v 3 ⊕ v 5) ∷ []) tt (
        ee,
        (
          ex ∙ join_same none join (p - 1) _ _ hr ∙ sum_join laws (p - 1) across (λ i. W i p),
          (ey ∙ turn_diagonal d hd ∙ sum_last laws p across (omega arith), tt),
        ),
      )

  -- the sums of the known columns
  pub known_sums : (d a : List E) (e : E) → ((i : ℕ) → i < p
      → get_or d i none ≡ join_below none join p (except none t (λ c. unfolded none p W c (i + (p - c)))))
      → ((i : ℕ) → i < p → get_or a i none ≡ join_below none join p
      (except none t (λ c. unfolded_anti none join p W c (i + c))))
      → e ≡ join_below none join p (except none t (λ c. excess none join p W c))
      → KnownSums none join p t W d a (listed_to p across) e
  known_sums d a e hd ha he = record {
    diagonal = hd;
    antidiagonal = ha;
    row =
        λ i l. listed_at none p across i l;
    excesses = he;
  }

  -- where the antidiagonals are not asked for
  pub known_two_ways : (d : List E) → ChainJoins none join p Z Diagonal d
      → KnownSums none join p t W d (listed_to p (λ i. join_below none join p
      (except none t (λ c. unfolded_anti none join p W c (i + c))))) (listed_to p across)
      (join_below none join p (except none t (λ c. excess none join p W c)))
  known_two_ways d is = known_sums d _ _ (known_diagonal d is) (λ i l. listed_at none p _ i l) refl

-- What the columns of a stripe obey, unfolded; and of an encoded one, that they join to nothing along the lines.
use Rattle.std.proofs.Common.{◌≡◌, ℕ, zero, suc, ◌+◌, ◌-◌, ◌*◌, ◌/◌, ◌%◌, ◌<◌, eqb, [], ◌∷◌, sym, ap, ◌∙◌, ⊎_elim, mod-lt, mod-eq_of_lt, add-mul, div-add-mod', arith}
use Rattle.std.proofs.lemmas.Bool.Decides.{nat_tests}
use native.Mathlib.Nat.{add-mod_right}
use Rattle.std.proofs.lemmas.Bool.{cases_eq}
use Rattle.tip_element.specs.Laws.{Laws}
use Rattle.tip_element.specs.Counts.{join_below}
use Rattle.tip_element.proofs.Joins.{join_same, right}
use Rattle.tip_code.specs.Primes.{PrimeFacts}
use Rattle.tip_code.specs.Encoding.{datum, line_join, chain_join, Encoded}
use Rattle.tip_code.specs.declared.chain.Direction.TheVariants.{Row, Diagonal, Antidiagonal}
use Rattle.tip_code.proofs.Cells.{Data, data_facts, data_not}
use Rattle.tip_code.proofs.Data.{datum_same, datum_out}
use Rattle.tip_algebra.specs.Cyclic.{Per, opposite}
use Rattle.tip_algebra.specs.Known.{except}
use Rattle.tip_algebra.specs.Unfolded.{diagonal_parity, unfolded, excess, at_last, unfolded_anti, folded}
use Rattle.tip_algebra.proofs.Group.{o, v, ◌⊕◌, ◌≐◌, same, solveBy}
use Rattle.tip_algebra.proofs.Cyclic.{per_at, mod_per}
use Rattle.tip_algebra.proofs.Sums.{sum_join, sum_zero, sum_take, sum_swap, sum_shift}

-- the remainder, of a number that is apart from it by whole periods
pub mod_at : (p m n a b : ℕ) → b < p → a + m * p ≡ b + n * p → a % p ≡ b
mod_at p m n a b h e = per_at p (λ k. k % p) (mod_per p) m n a b e ∙ mod-eq_of_lt h

-- a periodic function across the reflection
pub opposite_at : {E : Type 0} (p : ℕ) (F : ℕ → E) → Per p F → 0 < p → (m n k : ℕ) → n + k + 2 ≡ m * p → F (opposite p n) ≡ F k
opposite_at p F per pos m n k e =
    per_at p F per m (n / p + 2) (opposite p n) k (omega (arith, div-add-mod' n p, mod-lt n pos, add-mul (n / p) 2 p))

-- diagonal i reaches row p - 1 in column i + 1 alone, and antidiagonal i in column p - 1 - i
pub diagonal_apart : (p i c : ℕ) → i < p - 1 → c < p → (c ≡ i + 1 → ⊥) → (i + (p - c)) % p ≡ p - 1 → ⊥
diagonal_apart p i c h l n e =
    grind (arith, mod_at p 0 0 (i + (p - c)) (i + (p - c)), mod_at p 0 1 (i + (p - c)) (i - c))

pub anti_apart : (p i c : ℕ) → i < p → c < p → (c ≡ p - 1 - i → ⊥) → (i + c) % p ≡ p - 1 → ⊥
anti_apart p i c h l n e = grind (arith, mod_at p 0 0 (i + c) (i + c), mod_at p 0 1 (i + c) (i + c - p))

module _ {E : Type 0} (none : E) (p : ℕ) where
  pub unfolded_per : (X : ℕ → ℕ → E) (c : ℕ) → Per p (unfolded none p X c)
  unfolding unfolded
  unfolded_per X c i = simp add-mod_right

  pub at_last_per : (e : E) → Per p (at_last none p e)
  unfolding at_last
  at_last_per e i = simp add-mod_right

  -- at p - 1, and elsewhere
  pub unfolded_top : (X : ℕ → ℕ → E) (c i : ℕ) → i % p ≡ p - 1 → unfolded none p X c i ≡ diagonal_parity none X c
  unfolding unfolded
  unfolded_top X c i e = grind (arith, nat_tests)

  pub unfolded_off : (X : ℕ → ℕ → E) (c i : ℕ) → (i % p ≡ p - 1 → ⊥) → unfolded none p X c i ≡ datum none p X (i % p) c
  unfolding unfolded
  unfolded_off X c i e = grind (arith, nat_tests)

  pub at_last_top : (e : E) (i : ℕ) → i % p ≡ p - 1 → at_last none p e i ≡ e
  unfolding at_last
  at_last_top e i h = grind (arith, nat_tests)

  pub at_last_off : (e : E) (i : ℕ) → (i % p ≡ p - 1 → ⊥) → at_last none p e i ≡ none
  unfolding at_last
  at_last_off e i h = grind (arith, nat_tests)

  -- in a row that exists
  pub unfolded_at : (X : ℕ → ℕ → E) (c r : ℕ) → r < p - 1 → unfolded none p X c r ≡ datum none p X r c
  unfolded_at X c r h = let e : r % p ≡ r = mod-eq_of_lt (omega arith) in cc (unfolded_off X c r (omega arith))

  -- no data in a cell of parity
  datum_parity : (X : ℕ → ℕ → E) (r c : ℕ) → (Data p r c → ⊥) → datum none p X r c ≡ none
  datum_parity X r c h = datum_out none p X r c (data_not p r c h)

  pub unfolded_zero : (X : ℕ → ℕ → E) (c : ℕ) → c < p → unfolded none p X c (p - 1 - c) ≡ none
  unfolded_zero X zero h = unfolded_top X 0 (p - 1 - 0) (mod_at p 0 0 (p - 1 - 0) (p - 1) (omega arith) (omega arith))
  unfolded_zero X (suc c) h =
      unfolded_at X (suc c) (p - 1 - suc c) (omega arith)
      ∙ datum_parity X (p - 1 - suc c) (suc c) (λ d. d.antidiagonal (omega arith))

  -- the same cells, the same columns
  pub unfolded_same : (X Y : ℕ → ℕ → E) (c : ℕ) → c < p → ((r : ℕ) → r < p - 1 → X r c ≡ Y r c) → (i : ℕ) → unfolded none p X c i ≡ unfolded none p Y c i
  unfolding unfolded
  unfolded_same X Y c h e i =
      grind (arith, nat_tests, e (c - 1), datum_same none p X Y (i % p) c (λ d. e (i % p) (data_facts p (i % p) c d).row))

  pub excess_same : (join : E → E → E) (X Y : ℕ → ℕ → E) (c : ℕ) → c < p → ((r : ℕ) → r < p - 1 → X r c ≡ Y r c) → excess none join p X c ≡ excess none join p Y c
  unfolding excess
  excess_same join X Y c h e = grind (arith, nat_tests, e (c - 1), e (p - 1 - c))

  -- the reflection keeps p - 1 and what is not
  pub at_last_even : 0 < p → (e : E) (i : ℕ) → at_last none p e (opposite p i) ≡ at_last none p e i
  unfolding at_last
  at_last_even pos e i =
      let low : i % p < p = mod-lt i pos in
      grind (arith, nat_tests, mod_at p 0 0 (opposite p i) (p - 1), mod_at p 0 1 (opposite p i) (p - 2 - i % p))

module _ {E : Type 0} (none : E) (join : E → E → E) (p : ℕ) (X : ℕ → ℕ → E) (c : ℕ) where
  pub anti_per : Per p (unfolded_anti none join p X c)
  anti_per i = cc (unfolded_per none p X c i, at_last_per none p (excess none join p X c) i)

  pub folded_per : Per p (folded none join p X c)
  folded_per i = cc (unfolded_per none p X c i, add-mod_right i p)

module _ {E : Type 0} {none : E} {join : E → E → E} (laws : Laws none join) (p : ℕ) (X : ℕ → ℕ → E) where
  -- off p - 1 the antidiagonals see the same column
  pub anti_off : (c i : ℕ) → (i % p ≡ p - 1 → ⊥) → unfolded_anti none join p X c i ≡ unfolded none p X c i
  anti_off c i e = cc (at_last_off none p (excess none join p X c) i e, right laws (unfolded none p X c i))

  anti_top : (c i : ℕ) → i % p ≡ p - 1 → (c ≡ 0 → ⊥) → unfolded_anti none join p X c i ≡ X (p - 1 - c) c
  unfolding excess
  anti_top c i e n =
      let L = at_last none p (excess none join p X c) i in
      solveBy laws (unfolded none p X c i ∷ L ∷ X (c - 1) c ∷ X (p - 1 - c) c ∷ []) (v 0 ⊕ v 1) (v 3) ((v 0 ≐ v 2) ∷ (v 1 ≐ v 2 ⊕ v 3) ∷ []) tt
      (unfolded_top none p X c i e ∙ grind (arith, nat_tests), (at_last_top none p (excess none join p X c) i e ∙ grind (arith, nat_tests), tt))

  anti_zero : (c : ℕ) → c < p → unfolded_anti none join p X c (p - 1 + c) ≡ none
  unfolding excess
  anti_zero zero h =
      let e : (p - 1 + 0) % p ≡ p - 1 = mod_at p 0 0 (p - 1 + 0) (p - 1) (omega arith) (omega arith) in
      ap (λ x. join x (at_last none p (excess none join p X 0) (p - 1 + 0))) (unfolded_top none p X 0 (p - 1 + 0) e)
      ∙ ap (join none) (at_last_top none p (excess none join p X 0) (p - 1 + 0) e) ∙ laws.neutral none
  anti_zero (suc c) h =
      let e : (p - 1 + suc c) % p ≡ c = mod_at p 0 1 (p - 1 + suc c) c (omega arith) (omega arith) in
      anti_off (suc c) (p - 1 + suc c) (omega arith)
      ∙ per_at p (unfolded none p X (suc c)) (unfolded_per none p X (suc c)) 0 1 (p - 1 + suc c) c (omega arith)
      ∙ unfolded_at none p X (suc c) c (omega arith)
      ∙ datum_parity none p X c (suc c) (λ d. d.diagonal (omega arith))

  pub folded_zero : (c : ℕ) → c < p → folded none join p X c (p - 1 - c) ≡ none
  folded_zero c h =
      ap (λ x. join x (unfolded_anti none join p X c (opposite p (p - 1 - c)))) (unfolded_zero none p X c h)
      ∙ laws.neutral (unfolded_anti none join p X c (opposite p (p - 1 - c)))
      ∙ opposite_at p (unfolded_anti none join p X c) (anti_per none join p X c) (omega arith) 2 (p - 1 - c) (p - 1 + c) (omega arith)
      ∙ anti_zero c h

  pub folded_last : (c : ℕ) → 0 < p → folded none join p X c (p - 1) ≡ excess none join p X c
  folded_last c pos =
      let U = unfolded none p X c in
      let e = excess none join p X c in
      ap (join (U (p - 1))) (opposite_at p (unfolded_anti none join p X c) (anti_per none join p X c) pos 2 (p - 1) (p - 1) (omega arith))
      ∙ solveBy laws (U (p - 1) ∷ at_last none p e (p - 1) ∷ e ∷ []) (v 0 ⊕ (v 0 ⊕ v 1)) (v 2) ((v 1 ≐ v 2) ∷ []) tt
      (at_last_top none p e (p - 1) (mod-eq_of_lt (omega arith)), tt)

module _ {E : Type 0} {none : E} {join : E → E → E} (laws : Laws none join) where
  -- two sums that differ in one term, which is zero in the second
  sum_other : (n k : ℕ) (f h : ℕ → E) → k < n → h k ≡ none → ((i : ℕ) → i < n → (i ≡ k → ⊥) → f i ≡ h i) → join_below none join n f ≡ join (f k) (join_below none join n h)
  sum_other n k f h l z e =
      let rest = join_below none join n (except none (λ m. eqb m k) h) in
      sum_take laws n k f l
      ∙ ap (join (f k)) (join_same none join n _ _ (λ i b. grind (arith, nat_tests, e i b)) ∙ sym (laws.neutral rest) ∙ ap (λ x. join x rest) (sym z) ∙ sym (sum_take laws n k h l))

  -- the last term of a turn
  pub sum_last : (p : ℕ) (f : ℕ → E) → 0 < p → join_below none join p f ≡ join (join_below none join (p - 1) f) (f (p - 1))
  sum_last p f pos = let e : p ≡ suc (p - 1) = omega arith in ap (λ n. join_below none join n f) e

  -- over a whole turn it does not matter how each column is shifted
  pub turn_same : (p : ℕ) (W : ℕ → ℕ → E) (s : ℕ → ℕ) → ((c : ℕ) → Per p (W c))
      → join_below none join p (λ i. join_below none join p (λ c. W c (i + s c)))
      ≡ join_below none join p (λ i. join_below none join p (λ c. W c i))
  turn_same p W s per =
      sum_swap laws p p (λ i c. W c (i + s c))
      ∙ join_same none join p _ _ (λ c _. sum_shift laws p (s c) (W c) (per c))
      ∙ sum_swap laws p p (λ c i. W c i)

  -- so columns that join to nothing along every line do so over a whole turn
  turn_none : (p : ℕ) (W : ℕ → ℕ → E) (s : ℕ → ℕ) → ((c : ℕ) → Per p (W c)) → ((i : ℕ) → i < p → join_below none join p (λ c. W c (i + s c)) ≡ none) → join_below none join p (λ i. join_below none join p (λ c. W c i)) ≡ none
  turn_none p W s per h = sym (turn_same p W s per) ∙ sum_zero laws p _ h

module _ {E : Type 0} {none : E} {join : E → E → E} (laws : Laws none join) (p : ℕ) (prime : PrimeFacts p)
    (X : ℕ → ℕ → E) where
  pub along_diagonal : (i : ℕ) → i < p - 1 → join_below none join p (λ c. unfolded none p X c (i + (p - c)))
      ≡ chain_join none join p X Diagonal i
  along_diagonal i h =
      let top : (i + (p - (i + 1))) % p ≡ p - 1 = mod_at p 0 0 (i + (p - (i + 1))) (p - 1) (omega arith) (omega arith) in
      let parity : unfolded none p X (i + 1) (i + (p - (i + 1))) ≡ X i (i + 1) =
      unfolded_top none p X (i + 1) (i + (p - (i + 1))) top ∙ grind (arith, nat_tests) in
      sum_other laws p (i + 1) _ (λ c. datum none p X ((i + (p - c)) % p) c) (omega arith)
      (datum_parity none p X ((i + (p - (i + 1))) % p) (i + 1) (λ d. omega (arith, d.row)))
      (λ c l n. unfolded_off none p X c (i + (p - c)) (diagonal_apart p i c (omega arith) l n))
      ∙ ap (λ y. join y (line_join none join p X Diagonal i)) parity

  pub along_last_diagonal : join_below none join p (λ c. unfolded none p X c (p - 1 + (p - c))) ≡ none
  along_last_diagonal =
      sum_zero laws p _
      (λ c l. per_at p (unfolded none p X c) (unfolded_per none p X c) 0 1 (p - 1 + (p - c)) (p - 1 - c)
      (omega arith) ∙ unfolded_zero none p X c l)

  pub along_antidiagonal : (i : ℕ) → i < p - 1 → join_below none join p (λ c. unfolded_anti none join p X c (i + c))
      ≡ chain_join none join p X Antidiagonal i
  along_antidiagonal i h =
      let k = p - 1 - i in
      let top : (i + k) % p ≡ p - 1 = mod_at p 0 0 (i + k) (p - 1) (omega arith) (omega arith) in
      sum_other laws p k _ (λ c. datum none p X ((i + c) % p) c) (omega arith)
      (datum_parity none p X ((i + k) % p) k (λ d. omega (arith, d.row)))
      (λ c l n. let off = anti_apart p i c (omega arith) l n in anti_off laws p X c
      (i + c) off ∙ unfolded_off none p X c (i + c) off)
      ∙ ap (λ y. join y (line_join none join p X Antidiagonal i))
      (anti_top laws p X k (i + k) top (omega arith) ∙ ap (λ r. X r k) (omega arith))

  pub along_last_antidiagonal : join_below none join p (λ c. unfolded_anti none join p X c (p - 1 + c)) ≡ none
  along_last_antidiagonal = sum_zero laws p _ (λ c l. anti_zero laws p X c l)

  pub along_row : (i : ℕ) → i < p - 1 → join_below none join p (λ c. unfolded none p X c i)
      ≡ line_join none join p X Row i
  along_row i h = join_same none join p _ _ (λ c _. unfolded_at none p X c i h)

module _ {E : Type 0} {none : E} {join : E → E → E} (laws : Laws none join) (p : ℕ) (prime : PrimeFacts p)
    (X : ℕ → ℕ → E) (x : Encoded none join p X) where
  pub rule_diagonal : (i : ℕ) → i < p → join_below none join p (λ c. unfolded none p X c (i + (p - c))) ≡ none
  rule_diagonal i h =
      ⊎_elim
      (λ (t : i ≡ p - 1). rw t (along_last_diagonal laws p prime X))
      (λ (t : i ≡ p - 1 → ⊥).
      along_diagonal laws p prime X i (omega arith) ∙ ap (join (X i (i + 1)))
      (sym (x.diagonal i (omega arith))) ∙ laws.cancel (X i (i + 1)))
      (cases_eq i (p - 1))

  pub rule_antidiagonal : (i : ℕ) → i < p → join_below none join p (λ c. unfolded_anti none join p X c (i + c)) ≡ none
  rule_antidiagonal i h =
      ⊎_elim
      (λ (t : i ≡ p - 1). rw t (along_last_antidiagonal laws p prime X))
      (λ (t : i ≡ p - 1 → ⊥).
      along_antidiagonal laws p prime X i (omega arith)
      ∙ ap (join (X i (p - 1 - i))) (sym (x.antidiagonal i (omega arith))) ∙ laws.cancel (X i (p - 1 - i)))
      (cases_eq i (p - 1))

  pub rule_row : (i : ℕ) → i < p - 1 → join_below none join p (λ c. unfolded none p X c i) ≡ X i p
  rule_row i h = along_row laws p prime X i h ∙ sym (x.row i h)

  -- the diagonals over a whole turn, with the rows that exist apart
  plain_turn : join (join_below none join (p - 1) (λ i. X i p)) (join_below none join p (λ c. unfolded none p X c (p - 1))) ≡ none
  plain_turn =
      let last = join_below none join p (λ c. unfolded none p X c (p - 1)) in
      ap (λ y. join y last) (sym (join_same none join (p - 1) _ _ rule_row))
      ∙ sym (sum_last laws p _ (omega arith))
      ∙ turn_none laws p (λ c. unfolded none p X c) (λ c. p - c) (unfolded_per none p X) rule_diagonal

  pub rule_last : join_below none join p (λ c. unfolded none p X c (p - 1)) ≡ join_below none join (p - 1) (λ i. X i p)
  rule_last = sym (same laws _ _ plain_turn)

  pub rule_excess : join_below none join p (λ c. excess none join p X c) ≡ none
  rule_excess =
      let U = join_below none join p (λ c. unfolded none p X c (p - 1)) in
      let V = join_below none join p (λ c. unfolded_anti none join p X c (p - 1)) in
      let R = join_below none join (p - 1) (λ i. X i p) in
      let e = join_below none join p (λ c. excess none join p X c) in
      let top : (p - 1) % p ≡ p - 1 = mod-eq_of_lt (omega arith) in
      let row : (i : ℕ) → i < p - 1 → join_below none join p (λ c. unfolded_anti none join p X c i) ≡ X i p =
      λ i h. let m : i % p ≡ i = mod-eq_of_lt (omega arith) in
      join_same none join p _ _ (λ c _. anti_off laws p X c i (omega arith)) ∙ rule_row i h in
      let turn : join R V ≡ none =
      ap (λ y. join y V) (sym (join_same none join (p - 1) _ _ row))
      ∙ sym (sum_last laws p _ (omega arith))
      ∙ turn_none laws p (λ c. unfolded_anti none join p X c) (λ c. c) (anti_per none join p X) rule_antidiagonal in
      let split : V ≡ join U e =
      join_same none join p _ _ (λ c _. ap (join (unfolded none p X c (p - 1))) (at_last_top none p (excess none join p X c) (p - 1) top))
      ∙ sum_join laws p (λ c. unfolded none p X c (p - 1)) (λ c. excess none join p X c) in
      solveBy laws (R ∷ U ∷ V ∷ e ∷ []) (v 3) o ((v 0 ⊕ v 1 ≐ o) ∷ (v 0 ⊕ v 2 ≐ o) ∷ (v 2 ≐ v 1 ⊕ v 3) ∷ []) tt (plain_turn, (turn, (split, tt)))

-- From the sums of the known columns of an encoded stripe to those of the unknown ones.
use Rattle.std.proofs.Common.{◌≡◌, ℕ, ◌+◌, ◌-◌, ◌%◌, ◌<◌, ◌≤◌, Bool, false, cond, ◌||◌, eqb, List, [], ◌∷◌, get_or, sym, refl, ap, ◌∙◌, ⊎_elim, mod-lt, mod-eq_of_lt, arith}
use Rattle.std.proofs.lemmas.Bool.Decides.{nat_tests}
use Rattle.std.proofs.lemmas.Bool.{cases_lt, ne_eqb, cond-false}
use Rattle.tip_element.specs.Laws.{Laws}
use Rattle.tip_element.specs.Counts.{join_below}
use Rattle.tip_element.proofs.Joins.{join_same, right}
use Rattle.tip_code.specs.Primes.{PrimeFacts}
use Rattle.tip_code.specs.Encoding.{Encoded}
use Rattle.tip_algebra.specs.Cyclic.{opposite}
use Rattle.tip_algebra.specs.Known.{except, KnownSums}
use Rattle.tip_algebra.specs.Unfolded.{unfolded, excess, at_last, unfolded_anti, folded}
use Rattle.tip_algebra.specs.Unknown.{PairSums, RowPairSums, TripleSums}
use Rattle.tip_algebra.proofs.Group.{v, ◌⊕◌, ◌≐◌, solveBy}
use Rattle.tip_algebra.proofs.Cyclic.{per_at, per_mod, per_mod_add}
use Rattle.tip_algebra.proofs.Sums.{sum_take}
use Rattle.tip_algebra.proofs.Rules.{mod_at, opposite_at, anti_apart, unfolded_per, unfolded_zero, at_last_top, at_last_off, at_last_even, anti_per, anti_off, folded_per, folded_zero, folded_last, rule_diagonal, rule_antidiagonal, rule_row, rule_last, rule_excess}

module _ {E : Type 0} {none : E} {join : E → E → E} (laws : Laws none join) where
  -- one term more out of a sum
  pub sum_drop : (n k : ℕ) (t : ℕ → Bool) (F : ℕ → E) → k < n → t k ≡ false → join_below none join n (except none t F) ≡ join (F k) (join_below none join n (except none (λ c. eqb c k || t c) F))
  sum_drop n k t F h e =
      sum_take laws n k (except none t F) h
      ∙ ap (λ y. join y (join_below none join n (except none (λ c. eqb c k) (except none t F)))) (cond-false (t k) none (F k) e)
      ∙ ap (join (F k)) (join_same none join n _ _ (λ c _. grind arith))

  -- what the known columns join to, with the sum s of all, is what the unknown ones do
  pub sum_one : (p f : ℕ) → f < p → (F : ℕ → E) (s k : E) → join_below none join p F ≡ s
      → k ≡ join_below none join p (except none (λ c. eqb c f) F) → join k s ≡ F f
  sum_one p f fp F s k all known =
      solveBy laws (k ∷ s ∷ F f ∷ join_below none join p F ∷ join_below none join p (except none (λ c. eqb c f) F) ∷ [])
      (v 0 ⊕ v 1) (v 2) ((v 3 ≐ v 1) ∷ (v 0 ≐ v 4) ∷ (v 3 ≐ v 2 ⊕ v 4) ∷ []) tt
      (all, (known, (sum_take laws p f F fp, tt)))

  pub sum_two : (p f h : ℕ) → f < h → h < p → (F : ℕ → E) (s k : E) → join_below none join p F ≡ s → k ≡ join_below none join p (except none (λ c. eqb c f || eqb c h) F) → join k s ≡ join (F f) (F h)
  sum_two p f h fh hp F s k all known =
      solveBy laws
      (k ∷ s ∷ F f ∷ F h ∷ join_below none join p F ∷ join_below none join p (except none (λ c. eqb c h) F)
      ∷ join_below none join p (except none (λ c. eqb c f || eqb c h) F) ∷ [])
      (v 0 ⊕ v 1) (v 2 ⊕ v 3) ((v 4 ≐ v 1) ∷ (v 0 ≐ v 6) ∷ (v 4 ≐ v 3 ⊕ v 5) ∷ (v 5 ≐ v 2 ⊕ v 6) ∷ []) tt
      (all, (known, (sum_take laws p h F hp, (sum_drop p f (λ c. eqb c h) F (omega arith) (ne_eqb f h (omega arith)), tt))))

  pub sum_three : (p f g h : ℕ) → f < g → g < h → h < p → (F : ℕ → E) (s k : E) → join_below none join p F ≡ s → k ≡ join_below none join p (except none (λ c. eqb c f || (eqb c g || eqb c h)) F) → join k s ≡ join (join (F f) (F g)) (F h)
  sum_three p f g h fg gh hp F s k all known =
      let t = λ (c : ℕ). eqb c g || eqb c h in
      solveBy laws
      (k ∷ s ∷ F f ∷ F g ∷ F h ∷ join_below none join p (except none t F)
      ∷ join_below none join p (except none (λ c. eqb c f || t c) F) ∷ [])
      (v 0 ⊕ v 1) ((v 2 ⊕ v 3) ⊕ v 4) ((v 5 ⊕ v 1 ≐ v 3 ⊕ v 4) ∷ (v 0 ≐ v 6) ∷ (v 5 ≐ v 2 ⊕ v 6) ∷ []) tt
      (sum_two p g h gh hp F s _ all refl, (known, (sum_drop p f t F (omega arith) (grind (arith, nat_tests)), tt)))

  -- joins taken column by column
  fold_two : {z a b x y x' y' k m : E} → z ≡ join a b → a ≡ join x y → b ≡ join x' y' → join x x' ≡ k → join y y' ≡ m → z ≡ join k m
  fold_two {z} {a} {b} {x} {y} {x'} {y'} {k} {m} h ha hb hk hm =
      solveBy laws (z ∷ a ∷ b ∷ x ∷ y ∷ x' ∷ y' ∷ k ∷ m ∷ []) (v 0) (v 7 ⊕ v 8)
      ((v 0 ≐ v 1 ⊕ v 2) ∷ (v 1 ≐ v 3 ⊕ v 4) ∷ (v 2 ≐ v 5 ⊕ v 6) ∷ (v 3 ⊕ v 5 ≐ v 7) ∷ (v 4 ⊕ v 6 ≐ v 8) ∷ []) tt
      (h, (ha, (hb, (hk, (hm, tt)))))

  fold_three : {z a b x y w x' y' w' k m n : E} → z ≡ join a b → a ≡ join (join x y) w → b ≡ join (join x' y') w' → join x x' ≡ k → join y y' ≡ m → join w w' ≡ n → z ≡ join (join k m) n
  fold_three h ha hb hk hm hn = fold_two h ha hb (fold_two refl refl refl hk hm) hn

  -- the excesses taken out column by column
  plain_two : {z a x y x' y' k m : E} → z ≡ join (join a k) m → a ≡ join (join x x') (join y y') → k ≡ x' → m ≡ y' → z ≡ join x y
  plain_two {z} {a} {x} {y} {x'} {y'} {k} {m} h ha hk hm =
      solveBy laws (z ∷ a ∷ x ∷ y ∷ x' ∷ y' ∷ k ∷ m ∷ []) (v 0) (v 2 ⊕ v 3)
      ((v 0 ≐ (v 1 ⊕ v 6) ⊕ v 7) ∷ (v 1 ≐ (v 2 ⊕ v 4) ⊕ (v 3 ⊕ v 5)) ∷ (v 6 ≐ v 4) ∷ (v 7 ≐ v 5) ∷ []) tt
      (h, (ha, (hk, (hm, tt))))

  plain_three : {z a x y w x' y' w' k m n : E} → z ≡ join (join (join a k) m) n → a ≡ join (join (join x x') (join y y')) (join w w') → k ≡ x' → m ≡ y' → n ≡ w' → z ≡ join (join x y) w
  plain_three {z} {a} {x} {y} {w} {x'} {y'} {w'} {k} {m} {n} h ha hk hm hn =
      solveBy laws (z ∷ a ∷ x ∷ y ∷ w ∷ x' ∷ y' ∷ w' ∷ k ∷ m ∷ n ∷ []) (v 0) ((v 2 ⊕ v 3) ⊕ v 4)
      ((v 0 ≐ ((v 1 ⊕ v 8) ⊕ v 9) ⊕ v 10) ∷ (v 1 ≐ ((v 2 ⊕ v 5) ⊕ (v 3 ⊕ v 6)) ⊕ (v 4 ⊕ v 7)) ∷ (v 8 ≐ v 5) ∷ (v 9 ≐ v 6) ∷ (v 10 ≐ v 7) ∷ []) tt
      (h, (ha, (hk, (hm, (hn, tt)))))

module _ {E : Type 0} {none : E} {join : E → E → E} (laws : Laws none join) (p : ℕ) (X : ℕ → ℕ → E) (i : ℕ) (l : i < p) (c : ℕ) (h : c < p) where
  -- one column's terms in a folded sum
  column_diagonal : join (unfolded none p X c (i + (p - c))) (unfolded_anti none join p X c (opposite p i % p + c)) ≡ folded none join p X c (i + (p - c))
  column_diagonal =
      let m : i % p ≡ i = mod-eq_of_lt l in
      let V = unfolded_anti none join p X c in
      ap (join (unfolded none p X c (i + (p - c))))
      (per_mod_add p V (anti_per none join p X c) (opposite p i) c
      ∙ sym (opposite_at p V (anti_per none join p X c) (omega arith) 3 (i + (p - c)) (opposite p i + c) (omega arith)))

  column_antidiagonal : join (unfolded_anti none join p X c (i + c)) (unfolded none p X c (opposite p i % p + (p - c))) ≡ folded none join p X c (i + c)
  column_antidiagonal =
      let m : i % p ≡ i = mod-eq_of_lt l in
      let U = unfolded none p X c in
      let L = at_last none p (excess none join p X c) in
      solveBy laws (U (i + c) ∷ L (i + c) ∷ U (opposite p i % p + (p - c)) ∷ U (opposite p (i + c)) ∷ L (opposite p (i + c)) ∷ [])
      ((v 0 ⊕ v 1) ⊕ v 2) (v 0 ⊕ (v 3 ⊕ v 4)) ((v 2 ≐ v 3) ∷ (v 4 ≐ v 1) ∷ []) tt (
        per_mod_add p U (unfolded_per none p X c) (opposite p i) (p - c)
            ∙ sym (opposite_at p U (unfolded_per none p X c) (omega arith) 3 (i + c) (opposite p i + (p - c)) (omega arith)),
        (at_last_even none p (omega arith) (excess none join p X c) (i + c), tt),
      )

  column_row : i < p - 1 → join (unfolded none p X c i) (unfolded none p X c (opposite p i % p)) ≡ folded none join p X c i
  column_row b =
      let m : i % p ≡ i = mod-eq_of_lt l in
      let q : opposite p i % p ≡ p - 2 - i = mod_at p 0 1 (opposite p i) (p - 2 - i) (omega arith) (omega arith) in
      ap (join (unfolded none p X c i))
      (per_mod p (unfolded none p X c) (unfolded_per none p X c) (opposite p i) ∙ sym (anti_off laws p X c (opposite p i) (omega arith)))

  -- and its excess in an antidiagonal sum
  pub column_excess : (e : E) → e ≡ excess none join p X c → cond (eqb i (p - 1 - c)) e none ≡ at_last none p (excess none join p X c) (i + c)
  column_excess e same =
      grind (arith, nat_tests, mod_at p 0 0 (i + c) (p - 1), anti_apart p i c l h, at_last_top none p (excess none join p X c) (i + c), at_last_off none p (excess none join p X c) (i + c))

-- Column f alone is unknown.
module _ {E : Type 0} {none : E} {join : E → E → E} (laws : Laws none join) (p : ℕ) (prime : PrimeFacts p)
    (X : ℕ → ℕ → E) (x : Encoded none join p X) (f : ℕ) (fp : f < p) (d : List E)
    (known : (i : ℕ) → i < p → get_or d i none ≡ join_below none join p
    (except none (λ c. eqb c f) (λ c. unfolded none p X c (i + (p - c))))) where
  pub one_diagonal : (i : ℕ) → i < p → get_or d ((i + f) % p) none ≡ unfolded none p X f i
  one_diagonal i l =
      let k = (i + f) % p in
      let low : k < p = mod-lt (i + f) (omega arith) in
      sym (right laws (get_or d k none))
      ∙ sum_one laws p f fp (λ c. unfolded none p X c (k + (p - c))) none (get_or d k none)
      (rule_diagonal laws p prime X x k low) (known k low)
      ∙ per_mod_add p (unfolded none p X f) (unfolded_per none p X f) (i + f) (p - f)
      ∙ per_at p (unfolded none p X f) (unfolded_per none p X f) 0 1 (i + f + (p - f)) i (omega arith)

-- Columns f and h are unknown.
module _ {E : Type 0} {none : E} {join : E → E → E} (laws : Laws none join) (p : ℕ) (prime : PrimeFacts p) (X : ℕ → ℕ → E) (x : Encoded none join p X) (f h : ℕ) (fh : f < h) (hp : h < p) (d a r : List E) (e : E) (k : KnownSums none join p (λ c. eqb c f || eqb c h) X d a r e) where
  two_diagonal : (i : ℕ) → i < p → get_or d i none ≡ join (unfolded none p X f (i + (p - f))) (unfolded none p X h (i + (p - h)))
  two_diagonal i l =
      sym (right laws (get_or d i none))
      ∙ sum_two laws p f h fh hp (λ c. unfolded none p X c (i + (p - c))) none (get_or d i none) (rule_diagonal laws p prime X x i l) (k.diagonal i l)

  two_antidiagonal : (i : ℕ) → i < p → get_or a i none ≡ join (unfolded_anti none join p X f (i + f)) (unfolded_anti none join p X h (i + h))
  two_antidiagonal i l =
      sym (right laws (get_or a i none))
      ∙ sum_two laws p f h fh hp (λ c. unfolded_anti none join p X c (i + c)) none (get_or a i none) (rule_antidiagonal laws p prime X x i l) (k.antidiagonal i l)

  pub two_excess : e ≡ join (excess none join p X f) (excess none join p X h)
  two_excess = sym (right laws e) ∙ sum_two laws p f h fh hp (λ c. excess none join p X c) none e
      (rule_excess laws p prime X x) k.excesses

  pub two_rows : (i : ℕ) → i < p - 1 → join (join (get_or r i none) (unfolded none p X f i)) (unfolded none p X h i) ≡ X i p
  two_rows i l =
      let b : i < p = omega arith in
      solveBy laws (get_or r i none ∷ unfolded none p X f i ∷ unfolded none p X h i ∷ X i p ∷ []) ((v 0 ⊕ v 1) ⊕ v 2) (v 3) ((v 0 ⊕ v 3 ≐ v 1 ⊕ v 2) ∷ []) tt
      (sum_two laws p f h fh hp (λ c. unfolded none p X c i) (X i p) (get_or r i none) (rule_row laws p prime X x i l) (k.row i b), tt)

  -- with the row parities, rows and diagonals are enough
  pub two_by_rows : (r' : List E) → ((i : ℕ) → i < p - 1 → get_or r' i none ≡ join (get_or r i none) (X i p))
      → get_or r' (p - 1) none ≡ join (get_or r (p - 1) none) (join_below none join (p - 1) (λ i. X i p))
      → RowPairSums none join p f h r' d (unfolded none p X f) (unfolded none p X h)
  two_by_rows r' rows last = record {
    first = unfolded_per none p X f;
    last = unfolded_per none p X h;
    last_zero = unfolded_zero none p X h hp;
    row = λ i l. ⊎_elim
        (λ (b : i < p - 1). rows i b ∙ sum_two laws p f h fh hp (λ c. unfolded none p X c i) (X i p) (get_or r i none)
        (rule_row laws p prime X x i b) (k.row i l))
        (λ (b : p - 1 ≤ i).
        let t : i ≡ p - 1 = omega arith in
        rw t (last ∙ sum_two laws p f h fh hp (λ c. unfolded none p X c (p - 1))
        (join_below none join (p - 1) (λ i. X i p)) (get_or r (p - 1) none) (rule_last laws p prime X x)
        (k.row (p - 1) (omega arith))))
        (cases_lt i (p - 1));
    diagonal = two_diagonal;
  }

  pub two_folded : (de ae : List E) → ((i : ℕ) → i < p → get_or de i none ≡ join (get_or d i none) (get_or a (opposite p i % p) none)) → ((i : ℕ) → i < p → get_or ae i none ≡ join (get_or a i none) (get_or d (opposite p i % p) none)) → PairSums none join p f h de ae (folded none join p X f) (folded none join p X h)
  two_folded de ae hd ha =
      let fp : f < p = omega arith in
      let low : (i : ℕ) → opposite p i % p < p = λ i. mod-lt (opposite p i) (omega arith) in
      record {
        first = folded_per none join p X f;
        last = folded_per none join p X h;
        last_zero = folded_zero laws p X h hp;
        diagonal = λ i l. fold_two laws (hd i l) (two_diagonal i l) (two_antidiagonal (opposite p i % p) (low i)) (column_diagonal laws p X i l f fp) (column_diagonal laws p X i l h hp);
        antidiagonal = λ i l. fold_two laws (ha i l) (two_antidiagonal i l) (two_diagonal (opposite p i % p) (low i)) (column_antidiagonal laws p X i l f fp) (column_antidiagonal laws p X i l h hp);
      }

  pub two_plain : (ef eh : E) → ef ≡ excess none join p X f → eh ≡ excess none join p X h → (a' : List E) → ((i : ℕ) → i < p → get_or a' i none ≡ join (join (get_or a i none) (cond (eqb i (p - 1 - f)) ef none)) (cond (eqb i (p - 1 - h)) eh none)) → PairSums none join p f h d a' (unfolded none p X f) (unfolded none p X h)
  two_plain ef eh sf sh a' ha =
      let fp : f < p = omega arith in
      record {
        first = unfolded_per none p X f;
        last = unfolded_per none p X h;
        last_zero = unfolded_zero none p X h hp;
        diagonal = two_diagonal;
        antidiagonal = λ i l. plain_two laws (ha i l) (two_antidiagonal i l) (column_excess laws p X i l f fp ef sf) (column_excess laws p X i l h hp eh sh);
      }

-- Columns f, g and h are unknown; the list r' has the row parities too.
module _ {E : Type 0} {none : E} {join : E → E → E} (laws : Laws none join) (p : ℕ) (prime : PrimeFacts p) (X : ℕ → ℕ → E) (x : Encoded none join p X) (f g h : ℕ) (fg : f < g) (gh : g < h) (hp : h < p) (d a r : List E) (e : E) (k : KnownSums none join p (λ c. eqb c f || (eqb c g || eqb c h)) X d a r e) (r' : List E) (rows : (i : ℕ) → i < p - 1 → get_or r' i none ≡ join (get_or r i none) (X i p)) (last : get_or r' (p - 1) none ≡ join (get_or r (p - 1) none) (join_below none join (p - 1) (λ i. X i p))) where
  -- the sum of the unknown terms of a line, from that of all
  three : (F : ℕ → E) (s y : E) → join_below none join p F ≡ s → y ≡ join_below none join p (except none (λ c. eqb c f || (eqb c g || eqb c h)) F) → join y s ≡ join (join (F f) (F g)) (F h)
  three = sum_three laws p f g h fg gh hp

  three_diagonal : (i : ℕ) → i < p → get_or d i none ≡ join (join (unfolded none p X f (i + (p - f))) (unfolded none p X g (i + (p - g)))) (unfolded none p X h (i + (p - h)))
  three_diagonal i l =
      sym (right laws (get_or d i none))
      ∙ three (λ c. unfolded none p X c (i + (p - c))) none (get_or d i none) (rule_diagonal laws p prime X x i l) (k.diagonal i l)

  three_antidiagonal : (i : ℕ) → i < p → get_or a i none ≡ join (join (unfolded_anti none join p X f (i + f)) (unfolded_anti none join p X g (i + g))) (unfolded_anti none join p X h (i + h))
  three_antidiagonal i l =
      sym (right laws (get_or a i none))
      ∙ three (λ c. unfolded_anti none join p X c (i + c)) none (get_or a i none) (rule_antidiagonal laws p prime X x i l) (k.antidiagonal i l)

  three_row : (i : ℕ) → i < p → get_or r' i none ≡ join (join (unfolded none p X f i) (unfolded none p X g i)) (unfolded none p X h i)
  three_row i l =
      ⊎_elim
      (λ (b : i < p - 1). rows i b ∙ three (λ c. unfolded none p X c i) (X i p) (get_or r i none) (rule_row laws p prime X x i b) (k.row i l))
      (λ (b : p - 1 ≤ i).
      let t : i ≡ p - 1 = omega arith in
      rw t (last ∙ three (λ c. unfolded none p X c (p - 1)) (join_below none join (p - 1) (λ i. X i p)) (get_or r (p - 1) none) (rule_last laws p prime X x) (k.row (p - 1) (omega arith))))
      (cases_lt i (p - 1))

  pub three_excess : e ≡ join (join (excess none join p X f) (excess none join p X g)) (excess none join p X h)
  three_excess = sym (right laws e) ∙ three (λ c. excess none join p X c) none e (rule_excess laws p prime X x) k.excesses

  pub three_folded : (de ae re : List E) → ((i : ℕ) → i < p → get_or de i none ≡ join (get_or d i none) (get_or a (opposite p i % p) none)) → ((i : ℕ) → i < p → get_or ae i none ≡ join (get_or a i none) (get_or d (opposite p i % p) none)) → ((i : ℕ) → i < p - 1 → get_or re i none ≡ join (get_or r' i none) (get_or r' (opposite p i % p) none)) → get_or re (p - 1) none ≡ e → TripleSums none join p f g h re de ae (folded none join p X f) (folded none join p X g) (folded none join p X h)
  three_folded de ae re hd ha hr he =
      let fp : f < p = omega arith in
      let gp : g < p = omega arith in
      let low : (i : ℕ) → opposite p i % p < p = λ i. mod-lt (opposite p i) (omega arith) in
      let top : (c : ℕ) → excess none join p X c ≡ folded none join p X c (p - 1) = λ c. sym (folded_last laws p X c (omega arith)) in
      record {
        first = folded_per none join p X f;
        middle = folded_per none join p X g;
        last = folded_per none join p X h;
        middle_zero = folded_zero laws p X g gp;
        last_zero = folded_zero laws p X h hp;
        row = λ i l. ⊎_elim
            (λ (b : i < p - 1). fold_three laws (hr i b) (three_row i l) (three_row (opposite p i % p) (low i)) (column_row laws p X i l f fp b) (column_row laws p X i l g gp b) (column_row laws p X i l h hp b))
            (λ (b : p - 1 ≤ i).
            let t : i ≡ p - 1 = omega arith in
            rw t (he ∙ three_excess ∙ rw (← top f, ← top g, ← top h)))
            (cases_lt i (p - 1));
        diagonal = λ i l. fold_three laws (hd i l) (three_diagonal i l) (three_antidiagonal (opposite p i % p) (low i)) (column_diagonal laws p X i l f fp) (column_diagonal laws p X i l g gp) (column_diagonal laws p X i l h hp);
        antidiagonal = λ i l. fold_three laws (ha i l) (three_antidiagonal i l) (three_diagonal (opposite p i % p) (low i)) (column_antidiagonal laws p X i l f fp) (column_antidiagonal laws p X i l g gp) (column_antidiagonal laws p X i l h hp);
      }

  pub three_plain : (ef eg eh : E) → ef ≡ excess none join p X f → eg ≡ excess none join p X g → eh ≡ excess none join p X h → (a' : List E) → ((i : ℕ) → i < p → get_or a' i none ≡ join (join (join (get_or a i none) (cond (eqb i (p - 1 - f)) ef none)) (cond (eqb i (p - 1 - g)) eg none)) (cond (eqb i (p - 1 - h)) eh none)) → TripleSums none join p f g h r' d a' (unfolded none p X f) (unfolded none p X g) (unfolded none p X h)
  three_plain ef eg eh sf sg sh a' ha =
      let fp : f < p = omega arith in
      let gp : g < p = omega arith in
      record {
        first = unfolded_per none p X f;
        middle = unfolded_per none p X g;
        last = unfolded_per none p X h;
        middle_zero = unfolded_zero none p X g gp;
        last_zero = unfolded_zero none p X h hp;
        row = three_row;
        diagonal = three_diagonal;
        antidiagonal = λ i l. plain_three laws (ha i l) (three_antidiagonal i l) (column_excess laws p X i l f fp ef sf) (column_excess laws p X i l g gp eg sg) (column_excess laws p X i l h hp eh sh);
      }

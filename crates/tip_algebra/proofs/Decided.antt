-- Any p - 2 columns decide an encoded stripe: the join of two that agree there is encoded too, and zero everywhere.
use Rattle.std.proofs.Common.{◌≡◌, ℕ, zero, suc, ◌+◌, ◌-◌, ◌*◌, ◌%◌, ◌<◌, ◌≤◌, Bool, true, false, cond, not, ◌||◌, eqb, List, [], ◌∷◌, get_or, replicate, sym, refl, ap, ◌∙◌, ⊎_elim, mod-lt, mod-eq_of_lt, suc-mul, zero-mul, zero-add, arith, rules}
use Rattle.std.proofs.lemmas.List.{places}
use Rattle.std.proofs.lemmas.Bool.Decides.{nat_tests}
use native.Mathlib.Nat.{mod-add-mod, zero-mod}
use Rattle.std.proofs.lemmas.Bool.{cases_eq, cases_Bool, not-false}
use Rattle.tip_element.specs.Laws.{Laws}
use Rattle.tip_element.specs.Counts.{join_below, count_below}
use Rattle.tip_element.proofs.Joins.{join_same, right}
use Rattle.tip_code.specs.Primes.{PrimeFacts}
use Rattle.tip_code.specs.Encoding.{datum, line_join, Encoded}
use Rattle.tip_code.specs.Stripe.{data_cell, crossing}
use Rattle.tip_code.specs.declared.chain.Direction.{Direction}
use Rattle.tip_code.specs.declared.chain.Direction.TheVariants.{Row, Diagonal, Antidiagonal}
use Rattle.tip_code.proofs.Cells.{parity_cases}
use Rattle.tip_code.proofs.Data.{datum_in}
use Rattle.tip_algebra.specs.Cyclic.{Holds, Steps, Divided, opposite}
use Rattle.tip_algebra.specs.Decided.{Decided}
use Rattle.tip_algebra.specs.Known.{except, KnownSums}
use Rattle.tip_algebra.specs.Unfolded.{unfolded, excess, at_last, unfolded_anti, folded}
use Rattle.tip_algebra.specs.Unknown.{PairSums, TripleSums}
use Rattle.tip_algebra.proofs.Constants.{fixed}
use Rattle.tip_algebra.proofs.Counts.{TwoLost, ThreeLost, count_not, lost_columns}
use Rattle.tip_algebra.proofs.Group.{v, ◌⊕◌, ◌≐◌, same, solveBy}
use Rattle.tip_algebra.proofs.Lost.{two_rows, two_folded, two_plain, three_folded, three_plain}
use Rattle.tip_algebra.proofs.Middle.{middle_found, pair_left}
use Rattle.tip_algebra.proofs.Pair.{doubled, pair_found}
use Rattle.tip_algebra.proofs.Rules.{unfolded_top, unfolded_at, unfolded_same, excess_same, folded_last}
use Rattle.tip_algebra.proofs.Sums.{sum_join, sum_zero}
use Rattle.tip_algebra.proofs.Walk.{walked_all}

module _ {E : Type 0} {none : E} {join : E → E → E} (laws : Laws none join) (p : ℕ) where
  -- the parities of column c, from the column unfolded and its excess
  pub diagonal_top : (W : ℕ → ℕ → E) (c : ℕ) → 0 < c → c < p → unfolded none p W c (p - 1) ≡ W (c - 1) c
  diagonal_top W c n l = unfolded_top none p W c (p - 1) (mod-eq_of_lt (omega arith)) ∙ grind (arith, nat_tests)

  pub excess_past : (W : ℕ → ℕ → E) (c : ℕ) → 0 < c → excess none join p W c ≡ join (W (c - 1) c) (W (p - 1 - c) c)
  unfolding excess
  excess_past W c n = grind (arith, nat_tests)

  -- two stripes agree on a column, where it agrees unfolded and in its excess
  module _ (W Z : ℕ → ℕ → E) (c : ℕ) (l : c < p) (u : (i : ℕ) → i < p → unfolded none p W c i ≡ unfolded none p Z c i) (e : excess none join p W c ≡ excess none join p Z c) where
    same_datum : (r : ℕ) → r < p - 1 → data_cell p r c ≡ true → W r c ≡ Z r c
    same_datum r h t =
        sym (unfolded_at none p W c r h ∙ datum_in none p W r c t) ∙ u r (omega arith) ∙ unfolded_at none p Z c r h ∙ datum_in none p Z r c t

    same_diagonal : 0 < c → W (c - 1) c ≡ Z (c - 1) c
    same_diagonal n = sym (diagonal_top W c n l) ∙ u (p - 1) (omega arith) ∙ diagonal_top Z c n l

    same_antidiagonal : 0 < c → W (p - 1 - c) c ≡ Z (p - 1 - c) c
    same_antidiagonal n =
        solveBy laws (W (c - 1) c ∷ W (p - 1 - c) c ∷ Z (c - 1) c ∷ Z (p - 1 - c) c ∷ []) (v 1) (v 3) ((v 0 ≐ v 2) ∷ (v 0 ⊕ v 1 ≐ v 2 ⊕ v 3) ∷ []) tt
        (same_diagonal n, (sym (excess_past W c n) ∙ e ∙ excess_past Z c n, tt))

    pub column_same : (r : ℕ) → r < p - 1 → W r c ≡ Z r c
    column_same r h =
        grind (arith, cases_Bool (data_cell p r c), same_datum r h, same_diagonal, same_antidiagonal, parity_cases p r c)

-- The join of two encoded stripes is encoded.
module _ {E : Type 0} {none : E} {join : E → E → E} (laws : Laws none join) (p : ℕ) (X Y : ℕ → ℕ → E) where
  datum_join : (r c : ℕ) → datum none p (λ s d. join (X s d) (Y s d)) r c ≡ join (datum none p X r c) (datum none p Y r c)
  datum_join r c = grind (arith, laws.neutral none)

  line_join_both : (d : Direction) (i : ℕ) → line_join none join p (λ r c. join (X r c) (Y r c)) d i ≡ join (line_join none join p X d i) (line_join none join p Y d i)
  line_join_both d i =
      join_same none join p _ _ (λ c _. datum_join (crossing p d i c) c)
      ∙ sum_join laws p (λ c. datum none p X (crossing p d i c) c) (λ c. datum none p Y (crossing p d i c) c)

  both : {a b : E} (d : Direction) (i : ℕ) → a ≡ line_join none join p X d i → b ≡ line_join none join p Y d i → join a b ≡ line_join none join p (λ r c. join (X r c) (Y r c)) d i
  both {a} {b} d i ha hb = cc (line_join_both d i)

  pub encoded_join : Encoded none join p X → Encoded none join p Y → Encoded none join p (λ r c. join (X r c) (Y r c))
  encoded_join x y =
      record {
        row = λ i h. both Row i (x.row i h) (y.row i h);
        diagonal = λ i h. both Diagonal i (x.diagonal i h) (y.diagonal i h);
        antidiagonal = λ i h. both Antidiagonal i (x.antidiagonal i h) (y.antidiagonal i h);
      }

-- One turn of zeros.
abbrev zeros : {E : Type 0} → E → ℕ → List E
zeros none p = replicate p none

zeros_at : {E : Type 0} (none : E) (p i : ℕ) → get_or (zeros none p) i none ≡ none
zeros_at none p i = search (rules, places)

module _ {E : Type 0} {none : E} {join : E → E → E} (laws : Laws none join) where
  joins_none : {a b : E} → a ≡ none → b ≡ none → join a b ≡ none
  joins_none {a} {b} ea eb = cc (laws.neutral none)

  zeros_two : (p i j k : ℕ) → get_or (zeros none p) i none ≡ join (get_or (zeros none p) j none) (get_or (zeros none p) k none)
  zeros_two p i j k = cc (zeros_at none p i, zeros_at none p j, zeros_at none p k, laws.neutral none)

  -- a sequence that no step of u changes is the same throughout
  multiples : (p u : ℕ) (t : ℕ → E) → Steps none join p u (zeros none p) t → 0 < p → (k : ℕ) → t (k * u % p) ≡ t 0
  multiples p u t steps pos zero = ap t (ap (λ n. n % p) (zero-mul u) ∙ zero-mod p)
  multiples p u t steps pos (suc k) =
      let n = k * u % p in
      let at : (n + u) % p ≡ suc k * u % p = mod-add-mod (k * u) p u ∙ ap (λ m. m % p) (sym (suc-mul k u)) in
      ap t (sym at)
      ∙ same laws (t ((n + u) % p)) (t n) (sym (steps n (mod-lt (k * u) pos)) ∙ zeros_at none p ((n + u) % p))
      ∙ multiples p u t steps pos k

module _ {E : Type 0} {none : E} {join : E → E → E} (laws : Laws none join) (p : ℕ) (prime : PrimeFacts p) where
  zeros_divided : (u : ℕ) → 0 < u → u < p → (t : ℕ → E) → Steps none join p u (zeros none p) t
      → Divided none join p 0 (zeros none p) t
  zeros_divided u h l t steps =
      walked_all laws p 0 u (zeros none p) t prime (omega arith) h l
      (λ k _. zeros_at none p ((0 + k * u) % p)
      ∙ sym (ap (λ n. join (t (n % p)) (t 0)) (zero-add (k * u)) ∙ ap (λ x. join x (t 0))
      (multiples laws p u t steps (omega arith) k) ∙ laws.cancel (t 0)))

  zeros_from : (u : ℕ) → 0 < u → u < p → (k : ℕ) → k < p → (t : ℕ → E) → Steps none join p u (zeros none p) t → t k ≡ none → Holds none p (zeros none p) t
  zeros_from u h l k low t steps e =
      let z = zeros none p in
      let q = zeros_divided u h l t steps in
      fixed laws p 0 z z none t q (sym (zeros_at none p k) ∙ q k low ∙ ap (λ x. join x (t 0)) e ∙ laws.neutral (t 0))
      (λ i _. sym (right laws (get_or z i none)))

  -- two unknown columns whose joins are zero
  pair_zero : (f h : ℕ) → f < h → h < p → (X Y : ℕ → E) → PairSums none join p f h (zeros none p) (zeros none p) X Y → Holds none p (zeros none p) X × Holds none p (zeros none p) Y
  pair_zero f h fh hp X Y s =
      let z = zeros none p in
      let u = (h - f + (h - f)) % p in
      let two = zeros_two laws p in
      pair_found laws p f h fh hp z z X Y s z z z u refl
      (λ i _. two i ((i + (p + f + f - h)) % p) ((i + (p - h)) % p))
      (zeros_from u (doubled p (h - f) u (omega arith) (omega arith) prime.odd refl) (mod-lt (h - f + (h - f)) (omega arith)) (p - 1 - h) (omega arith))
      (λ i _. two i ((i + f) % p) ((i + (p + f - h)) % p))

  -- and three
  triple_zero : (f g h : ℕ) → f < g → g < h → h < p → (X M Y : ℕ → E) → TripleSums none join p f g h (zeros none p) (zeros none p) (zeros none p) X M Y → Holds none p (zeros none p) X × Holds none p (zeros none p) M × Holds none p (zeros none p) Y
  triple_zero f g h fg gh hp X M Y s =
      let z = zeros none p in
      let at = zeros_at none p in
      let two = zeros_two laws p in
      let both : (i j : ℕ) → join (get_or z i none) (get_or z j none) ≡ none = λ i j. joins_none laws (at i) (at j) in
      let held = middle_found laws p f g h fg gh hp z z z X M Y s prime z z z z none
      (λ i _. at i ∙ sym (joins_none laws (joins_none laws (both i ((i + (p + f - h)) % p)) (at ((i + f) % p))) (at ((i + (p - h)) % p))))
      (zeros_divided (g - f) (omega arith) (omega arith))
      (sym (sum_zero laws p (λ i. get_or z i none) (λ i _. at i)))
      (λ i _. sym (right laws (get_or z i none)))
      (zeros_from (h - g) (omega arith) (omega arith) (p - 1 - g) (omega arith)) in
      let ends = pair_zero f h (omega arith) hp X Y
      (pair_left laws p f g h fg gh hp z z z X M Y s z z z held (λ i _. two i i ((i + (p - g)) % p)) (λ i _. two i i ((i + g) % p))) in
      (ends.0, held, ends.1)

-- A zero column is zero unfolded and in its excess, and the other way round.
module _ {E : Type 0} {none : E} {join : E → E → E} (laws : Laws none join) (p : ℕ) where
  blank_unfolded : (c i : ℕ) → unfolded none p (λ _ _. none) c i ≡ none
  unfolding unfolded
  blank_unfolded c i = grind arith

  blank_excess : (c : ℕ) → excess none join p (λ _ _. none) c ≡ none
  unfolding excess
  blank_excess c = grind (arith, laws.neutral none)

  module _ (W : ℕ → ℕ → E) (c : ℕ) (l : c < p) where
    pub column_zero : ((i : ℕ) → i < p → unfolded none p W c i ≡ none) → excess none join p W c ≡ none → (r : ℕ) → r < p - 1 → W r c ≡ none
    column_zero u e =
        column_same laws p W (λ _ _. none) c l (λ i b. u i b ∙ sym (blank_unfolded c i)) (e ∙ sym (blank_excess c))

    pub zero_unfolded : ((r : ℕ) → r < p - 1 → W r c ≡ none) → (i : ℕ) → unfolded none p W c i ≡ none
    zero_unfolded z i = unfolded_same none p W (λ _ _. none) c l z i ∙ blank_unfolded c i

    pub zero_excess : ((r : ℕ) → r < p - 1 → W r c ≡ none) → excess none join p W c ≡ none
    zero_excess z = excess_same none p join W (λ _ _. none) c l z ∙ blank_excess c

    pub zero_anti : ((r : ℕ) → r < p - 1 → W r c ≡ none) → (i : ℕ) → unfolded_anti none join p W c i ≡ none
    unfolding at_last
    zero_anti z i = grind (arith, laws.neutral none, zero_unfolded z i, zero_excess z)

-- A stripe with zeros in the columns below p that t leaves out.
module _ {E : Type 0} {none : E} {join : E → E → E} (laws : Laws none join) (p : ℕ) (t : ℕ → Bool) (X : ℕ → ℕ → E) (off : (c : ℕ) → c < p → t c ≡ false → (r : ℕ) → r < p - 1 → X r c ≡ none) where
  known_none : (i : ℕ) (F : ℕ → E) → ((c : ℕ) → c < p → t c ≡ false → F c ≡ none) → get_or (zeros none p) i none ≡ join_below none join p (except none t F)
  known_none i F e =
      zeros_at none p i ∙ sym (sum_zero laws p (except none t F) (λ c l. grind (arith, e c l)))

  known_zero : KnownSums none join p t X (zeros none p) (zeros none p) (zeros none p) none
  known_zero =
      record {
        diagonal = λ i _. known_none i (λ c. unfolded none p X c (i + (p - c))) (λ c l e. zero_unfolded laws p X c l (off c l e) (i + (p - c)));
        antidiagonal = λ i _. known_none i (λ c. unfolded_anti none join p X c (i + c)) (λ c l e. zero_anti laws p X c l (off c l e) (i + c));
        row = λ i _. known_none i (λ c. unfolded none p X c i) (λ c l e. zero_unfolded laws p X c l (off c l e) i);
        excesses = sym (zeros_at none p 0) ∙ known_none 0 (λ c. excess none join p X c) (λ c l e. zero_excess laws p X c l (off c l e));
      }

module _ {E : Type 0} {none : E} {join : E → E → E} (laws : Laws none join) (p : ℕ) (prime : PrimeFacts p) (X : ℕ → ℕ → E) (x : Encoded none join p X) where
  -- the excess of a column whose folding is zero
  folded_excess : (c : ℕ) → Holds none p (zeros none p) (folded none join p X c) → none ≡ excess none join p X c
  folded_excess c held = sym (zeros_at none p (p - 1)) ∙ held (p - 1) (omega arith) ∙ folded_last laws p X c (omega arith)

  held_zero : (c : ℕ) → c < p → Holds none p (zeros none p) (unfolded none p X c) → none ≡ excess none join p X c → (r : ℕ) → r < p - 1 → X r c ≡ none
  held_zero c l held e = column_zero laws p X c l (λ i b. sym (held i b) ∙ zeros_at none p i) (sym e)

  -- a zero excess changes nothing
  taken_none : {a : E} (b : Bool) → a ≡ none → join a (cond b none none) ≡ none
  taken_none b e = grind (arith, laws.neutral none)

  mirror_two : (i : ℕ) → get_or (zeros none p) i none ≡ join (get_or (zeros none p) i none) (get_or (zeros none p) (opposite p i % p) none)
  mirror_two i = zeros_two laws p i i (opposite p i % p)

  -- at most columns f and h below p are not zero
  module _ (f h : ℕ) (fh : f < h) (hp : h < p) (off : (c : ℕ) → c < p → (c ≡ f → ⊥) → (c ≡ h → ⊥) → (r : ℕ) → r < p - 1 → X r c ≡ none) where
    two_known : KnownSums none join p (λ c. eqb c f || eqb c h) X (zeros none p) (zeros none p) (zeros none p) none
    two_known =
        known_zero laws p (λ c. eqb c f || eqb c h) X (λ c l e. off c l (grind (arith, nat_tests)) (grind (arith, nat_tests)))

    two_excess : (none ≡ excess none join p X f) × (none ≡ excess none join p X h)
    two_excess =
        let z = zeros none p in
        let q = pair_zero laws p prime f h fh hp _ _
        (two_folded laws p prime X x f h fh hp z z z none two_known z z (λ i _. mirror_two i) (λ i _. mirror_two i)) in
        (folded_excess f q.0, folded_excess h q.1)

    two_columns : ((r : ℕ) → r < p - 1 → X r f ≡ none) × ((r : ℕ) → r < p - 1 → X r h ≡ none)
    two_columns =
        let z = zeros none p in
        let e = two_excess in
        let q = pair_zero laws p prime f h fh hp _ _
        (two_plain laws p prime X x f h fh hp z z z none two_known none none e.0 e.1 z
        (λ i _. zeros_at none p i ∙ sym (taken_none (eqb i (p - 1 - h)) (taken_none (eqb i (p - 1 - f)) (zeros_at none p i))))) in
        (held_zero f (omega arith) q.0 e.0, held_zero h hp q.1 e.1)

    two_parity : (r : ℕ) → r < p - 1 → X r p ≡ none
    two_parity r b =
        let z = zeros none p in
        let q = two_columns in
        sym (two_rows laws p prime X x f h fh hp z z z none two_known r b)
        ∙ joins_none laws (joins_none laws (zeros_at none p r) (zero_unfolded laws p X f (omega arith) q.0 r)) (zero_unfolded laws p X h hp q.1 r)

    two_zero : (r c : ℕ) → r < p - 1 → c ≤ p → X r c ≡ none
    two_zero r c b l =
        grind (arith, cases_eq c p, cases_eq c f, cases_eq c h, two_parity r b, two_columns.0 r b, two_columns.1 r b, off c)

  -- at most columns f, g and h are not zero
  module _ (f g h : ℕ) (fg : f < g) (gh : g < h) (hp : h < p) (off : (c : ℕ) → c < p → (c ≡ f → ⊥) → (c ≡ g → ⊥) → (c ≡ h → ⊥) → (r : ℕ) → r < p - 1 → X r c ≡ none) (last : (r : ℕ) → r < p - 1 → X r p ≡ none) where
    three_known : KnownSums none join p (λ c. eqb c f || (eqb c g || eqb c h)) X (zeros none p) (zeros none p) (zeros none p) none
    three_known =
        known_zero laws p (λ c. eqb c f || (eqb c g || eqb c h)) X
        (λ c l e. off c l (grind (arith, nat_tests)) (grind (arith, nat_tests)) (grind (arith, nat_tests)))

    three_rows : (i : ℕ) → i < p - 1 → get_or (zeros none p) i none ≡ join (get_or (zeros none p) i none) (X i p)
    three_rows i b = zeros_at none p i ∙ sym (joins_none laws (zeros_at none p i) (last i b))

    three_last : get_or (zeros none p) (p - 1) none ≡ join (get_or (zeros none p) (p - 1) none) (join_below none join (p - 1) (λ i. X i p))
    three_last =
        zeros_at none p (p - 1) ∙ sym (joins_none laws (zeros_at none p (p - 1)) (sum_zero laws (p - 1) (λ i. X i p) last))

    three_excess : (none ≡ excess none join p X f) × (none ≡ excess none join p X g) × (none ≡ excess none join p X h)
    three_excess =
        let z = zeros none p in
        let q = triple_zero laws p prime f g h fg gh hp _ _ _
        (three_folded laws p prime X x f g h fg gh hp z z z none three_known z three_rows three_last z z z
        (λ i _. mirror_two i) (λ i _. mirror_two i) (λ i _. mirror_two i) (zeros_at none p (p - 1))) in
        (folded_excess f q.0, folded_excess g q.1, folded_excess h q.2)

    three_columns : ((r : ℕ) → r < p - 1 → X r f ≡ none) × ((r : ℕ) → r < p - 1 → X r g ≡ none) × ((r : ℕ) → r < p - 1 → X r h ≡ none)
    three_columns =
        let z = zeros none p in
        let e = three_excess in
        let q = triple_zero laws p prime f g h fg gh hp _ _ _
        (three_plain laws p prime X x f g h fg gh hp z z z none three_known z three_rows three_last none none none e.0 e.1 e.2 z
        (λ i _. zeros_at none p i ∙ sym (taken_none (eqb i (p - 1 - h)) (taken_none (eqb i (p - 1 - g)) (taken_none (eqb i (p - 1 - f)) (zeros_at none p i)))))) in
        (held_zero f (omega arith) q.0 e.0, held_zero g (omega arith) q.1 e.1, held_zero h hp q.2 e.2)

    three_zero : (r c : ℕ) → r < p - 1 → c ≤ p → X r c ≡ none
    three_zero r c b l =
        grind (arith, cases_eq c p, cases_eq c f, cases_eq c g, cases_eq c h, last r b, three_columns.0 r b, three_columns.1 r b, three_columns.2 r b, off c)

pub decided : {E : Type 0} {none : E} {join : E → E → E} (laws : Laws none join) (p : ℕ) → PrimeFacts p → Decided none join p
decided {E} {none} {join} laws p prime X Y x y kept many agree r c b l =
    let D : ℕ → ℕ → E = λ r c. join (X r c) (Y r c) in
    let lost = λ (c : ℕ). not (kept c) in
    let zero-kept : (c : ℕ) → c ≤ p → lost c ≡ false → (r : ℕ) → r < p - 1 → D r c ≡ none =
    λ c l e r b. ap (λ s. join s (Y r c)) (agree r c b l (not-false (kept c) e)) ∙ laws.cancel (Y r c) in
    let code = encoded_join laws p X Y x y in
    let few : count_below (p + 1) lost ≤ 3 = omega (arith, count_not (p + 1) kept) in
    same laws (X r c) (Y r c)
    (⊎_elim
    (λ (q : TwoLost p lost). two_zero laws p prime D code q.f q.h q.fh q.hp (λ c l n m. zero-kept c (omega arith) (q.others c l n m)) r c b l)
    (λ (q : ThreeLost p lost). three_zero laws p prime D code q.f q.g q.h q.fg q.gh q.hp (λ c l n m o. zero-kept c (omega arith) (q.others c l n m o)) (zero-kept p (omega arith) q.last) r c b l)
    (lost_columns p lost prime.low few))

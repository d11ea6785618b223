-- Columns cleared, found and written back, and when that solves the stripe.
use Rattle.std.proofs.Common.{◌≡◌, ℕ, ◌+◌, ◌-◌, ◌%◌, ◌<◌, ◌≤◌, Bool, true, false, ◌||◌, eqb, List, get_or, sym, refl, ap, ◌∙◌, ⊎_elim, arith}
use Rattle.std.proofs.lemmas.Bool.Decides.{nat_tests}
use Rattle.std.proofs.lemmas.Bool.{cases_eq, cases_Bool, both_ways}
use Rattle.tip_element.specs.Counts.{join_below}
use Rattle.tip_element.specs.Laws.{Laws}
use Rattle.tip_element.proofs.Joins.{join_same}
use Rattle.tip_code.specs.Encoding.{line_join, chain_join, Encoded}
use Rattle.tip_code.specs.Primes.{PrimeFacts}
use Rattle.tip_code.specs.Stripe.{data_cell}
use Rattle.tip_code.specs.declared.chain.Direction.TheVariants.{Row, Diagonal, Antidiagonal}
use Rattle.tip_code.proofs.Cells.{data_facts}
use Rattle.tip_code.proofs.Data.{line_same}
use Rattle.tip_algebra.specs.Cyclic.{Holds}
use Rattle.tip_algebra.specs.Known.{KnownSums, RowSums, ChainJoins}
use Rattle.tip_algebra.specs.Unfolded.{unfolded}
use Rattle.tip_algebra.specs.Unknown.{RowPairSums}
use Rattle.tip_algebra.proofs.Chains.{listed_at, across, known_diagonal, known_antidiagonal, known_row, known_excess, known_last, known_sums, known_two_ways}
use Rattle.tip_algebra.proofs.Lost.{one_diagonal, two_by_rows}
use Rattle.tip_algebra.proofs.Pair.{row_pair_first}
use Rattle.tip_columns.specs.Sets.{in_set}
use Rattle.tip_columns.specs.declared.Columns.{Columns}
use Rattle.tip_solve.specs.Finding.{ListsColumn, Alike, AlikeRows, FoundColumns, SolvedBelow}
use Rattle.tip_solve.specs.Seeking.{sought, SoughtBelow, Seeks}
use Rattle.tip_solve.specs.Solving.{Solved}
use Rattle.tip_solve.specs.Summing.{all_of, RowChains}
use Rattle.tip_solve.specs.Writing.{Elsewhere, CellElsewhere, UpToAntidiagonal}
use Rattle.tip_solve.specs.declared.sought.Pair.{Pair}
use Rattle.tip_solve.specs.declared.sought.Sought.{Sought}
use Rattle.tip_solve.specs.declared.sought.Sought.TheVariants.{Nothing, One, Two, Three}
use Rattle.tip_solve.specs.declared.sought.Triple.{Triple}

-- Z is X with zeros in the columns that t picks
pub record Emptied {E : Type 0} (none : E) (p : ℕ) (t : ℕ → Bool) (X Z : ℕ → ℕ → E) : Type 0 where
  pub others : (r c : ℕ) → r < p - 1 → c ≤ p → t c ≡ false → Z r c ≡ X r c
  pub gone : (c : ℕ) → c < p → t c ≡ true → (r : ℕ) → r < p - 1 → Z r c ≡ none

module _ {E : Type 0} (none : E) (p : ℕ) (X : ℕ → ℕ → E) where
  pub emptied_one : (f : ℕ) (Z : ℕ → ℕ → E) → Elsewhere p f X Z → ((r : ℕ) → r < p - 1 → Z r f ≡ none)
      → Emptied none p (λ c. eqb c f) X Z
  emptied_one f Z e z =
      record {
        others = λ r c h l o. e r c h l (grind (arith, nat_tests));
        gone = λ c l o r h. grind (arith, nat_tests, z r h);
      }

  pub emptied_two : (f h : ℕ) (A Z : ℕ → ℕ → E) → f < p → Emptied none p (λ c. eqb c f) X A → Elsewhere p h A Z
      → ((r : ℕ) → r < p - 1 → Z r h ≡ none) → Emptied none p (λ c. eqb c f || eqb c h) X Z
  emptied_two f h A Z fp a e z =
      record {
        others = λ r c b l o. grind (arith, nat_tests, e r c b l, a.others r c b l);
        gone = λ c l o r b. grind (arith, nat_tests, z r b, cases_eq c h, cases_eq c f, e r c b, a.gone c l);
      }

  pub emptied_three : (f g h : ℕ) (A Z : ℕ → ℕ → E) → h < p → Emptied none p (λ c. eqb c f || eqb c g) X A
      → Elsewhere p h A Z → ((r : ℕ) → r < p - 1 → Z r h ≡ none)
      → Emptied none p (λ c. eqb c f || (eqb c g || eqb c h)) X Z
  emptied_three f g h A Z hp a e z =
      record {
        others = λ r c b l o. grind (arith, nat_tests, e r c b l, a.others r c b l);
        gone = λ c l o r b. grind (
          arith,
          nat_tests,
          z r b,
          cases_eq c h,
          cases_eq c g,
          cases_eq c f,
          e r c b,
          a.gone
              c l,
        );
      }

-- the data cells of Y are those of W
abbrev HasData : {E : Type 0} → ℕ → (ℕ → ℕ → E) → (ℕ → ℕ → E) → Type 0
HasData p W Y = (r c : ℕ) → data_cell p r c ≡ true → Y r c ≡ W r c

-- An antidiagonal parity set, where all data cells are there.
module _ {E : Type 0} {none : E} {join : E → E → E} (laws : Laws none join) (p : ℕ) (W : ℕ → ℕ → E)
    (enc : Encoded none join p W) (f : ℕ) (fp : f < p) (Y Y' : ℕ → ℕ → E)
    (w : CellElsewhere p (p - 1 - f) f Y Y') where
  data_kept : HasData p W Y → HasData p W Y'
  data_kept has r c x =
      let d = data_facts p r c x in
      w r c d.row (omega (arith, d.column)) (λ e k. d.antidiagonal (omega (arith, d.row))) ∙ has r c x

  parity_set : HasData p W Y → (0 < f → Y (p - 1 - f) f ≡ none)
      → (0 < f → Y' (p - 1 - f) f ≡ chain_join none join p Y Antidiagonal (p - 1 - f)) → 0 < f
      → Y' (p - 1 - f) f ≡ W (p - 1 - f) f
  parity_set has zero here some =
      let i = p - 1 - f in
      let at : p - 1 - i ≡ f = omega arith in
      let line = line_join none join p Y Antidiagonal i in
      here some ∙ ap (λ y. join y line) (ap (Y i) at ∙ zero some) ∙ laws.neutral line
      ∙ line_same none join p Y W Antidiagonal i has ∙ sym (enc.antidiagonal i (omega arith)) ∙ ap (W i) at

  -- the column is then that of W
  column_done : HasData p W Y → (0 < f → Y' (p - 1 - f) f ≡ chain_join none join p Y Antidiagonal (p - 1 - f))
      → UpToAntidiagonal none p f W Y → (r : ℕ) → r < p - 1 → Y' r f ≡ W r f
  column_done has here up r h =
      let zero : 0 < f → Y (p - 1 - f) f ≡ none = λ some. up (p - 1 - f) (omega arith) ∙ grind (arith, nat_tests) in
      ⊎_elim
      (λ (e : r ≡ p - 1 - f). rw e (parity_set has zero here (omega arith)))
      (λ (e : r ≡ p - 1 - f → ⊥). w r f h (omega arith) (λ same _. e same) ∙ up r h ∙ grind (arith, nat_tests))
      (cases_eq r (p - 1 - f))

-- One column, from the diagonals.
module _ {E : Type 0} {none : E} {join : E → E → E} (laws : Laws none join) (p : ℕ) (prime : PrimeFacts p) (f : ℕ)
    (fp : f < p) (X Z Y Y' : ℕ → ℕ → E) (emptied : Emptied none p (λ c. eqb c f) X Z) (d run : List E)
    (chains : ChainJoins none join p Z Diagonal d) (turned : (i : ℕ) → i < p
    → get_or run i none ≡ get_or d ((i + f) % p) none) (written : Elsewhere p f Z Y)
    (up : (W : ℕ → ℕ → E) → Holds none p run (unfolded none p W f) → UpToAntidiagonal none p f W Y)
    (set : CellElsewhere p (p - 1 - f) f Y Y') (here : 0 < f
    → Y' (p - 1 - f) f ≡ chain_join none join p Y Antidiagonal (p - 1 - f)) where
  pub found_one : FoundColumns none join p (One f) false X Y'
  found_one =
      record {
        kept = λ r c h l o.
            let ne : c ≡ f → ⊥ = grind (arith, nat_tests) in
            set r c h l (λ _ e. ne e) ∙ written r c h l ne ∙ emptied.others r c h l o;
        found = λ W enc alike _ r c h l o.
            let agree : (k : ℕ) → k < p → eqb k f ≡ false → (s : ℕ) → s < p - 1 → Z s k ≡ W s k =
            λ k b off s q. emptied.others s k q (omega arith) off ∙ alike k b off s q in
            let known = known_diagonal laws p prime (λ k. eqb k f) W Z agree emptied.gone d chains in
            let column = up W (λ i b. turned i b ∙ one_diagonal laws p prime W enc f fp d known i b) in
            let has : HasData p W Y =
            λ s k x. let q = data_facts p s k x in
            ⊎_elim
            (λ (e : k ≡ f). rw e (column s q.row ∙ grind (arith, nat_tests, q.antidiagonal)))
            (λ (e : k ≡ f → ⊥). written s k q.row (omega (arith, q.column)) e ∙ agree k q.column
            (grind (arith, nat_tests)) s q.row)
            (cases_eq k f) in
            let same : c ≡ f = grind (arith, nat_tests) in
            rw same (column_done laws p W enc f fp Y Y' set has here column r h);
      }

-- Two columns, from the rows and the diagonals.
module _ {E : Type 0} {none : E} {join : E → E → E} (laws : Laws none join) (p : ℕ) (prime : PrimeFacts p) (t : Pair)
    (hp : t.last < p) (X Z A B C D : ℕ → ℕ → E) (emptied : Emptied none p (λ c. eqb c t.first || eqb c t.last) X Z)
    (d r x y : List E) (diagonals : ChainJoins none join p Z Diagonal d) (rows : RowChains none join p Z d r)
    (last : (U V : ℕ → E) → RowPairSums none join p t.first t.last r d U V → Holds none p y V)
    (first : (i : ℕ) → i < p → get_or x i none ≡ join (get_or r i none) (get_or y i none))
    (w₁ : Elsewhere p t.first Z A) (w₂ : Elsewhere p t.last A B)
    (up₁ : (W : ℕ → ℕ → E) → Holds none p x (unfolded none p W t.first) → UpToAntidiagonal none p t.first W A)
    (up₂ : (W : ℕ → ℕ → E) → Holds none p y (unfolded none p W t.last) → UpToAntidiagonal none p t.last W B)
    (s₁ : CellElsewhere p (p - 1 - t.first) t.first B C) (s₂ : CellElsewhere p (p - 1 - t.last) t.last C D)
    (h₁ : 0 < t.first → C (p - 1 - t.first) t.first ≡ chain_join none join p B Antidiagonal (p - 1 - t.first))
    (h₂ : 0 < t.last → D (p - 1 - t.last) t.last ≡ chain_join none join p C Antidiagonal (p - 1 - t.last)) where
  -- the two columns of an encoded stripe that agrees with X on the others
  module _ (W : ℕ → ℕ → E) (enc : Encoded none join p W) (alike : Alike p (Two t) X W) (same : AlikeRows p X W) where
    two_agree : (k : ℕ) → k < p → sought (Two t) k ≡ false → (s : ℕ) → s < p - 1 → Z s k ≡ W s k
    two_agree k b off s q = emptied.others s k q (omega arith) off ∙ alike k b off s q

    two_sums : RowPairSums none join p t.first t.last r d (unfolded none p W t.first) (unfolded none p W t.last)
    two_sums =
        let K = across laws p prime (sought (Two t)) W Z two_agree emptied.gone in
        let row : (i : ℕ) → i < p - 1 → get_or r i none ≡ join (K i) (W i p) =
        λ i l. known_row laws p prime (sought (Two t)) W Z two_agree emptied.gone i l
        (emptied.others i p l (omega arith) (grind (arith, nat_tests, t.ordered)) ∙ same i l) (get_or r i none)
        (rows.chain i l) in
        two_by_rows laws p prime W enc t.first t.last t.ordered hp d _ _ _
        (known_two_ways laws p prime (sought (Two t)) W Z two_agree emptied.gone d diagonals) r
        (λ i l. row i l ∙ ap (λ k. join k (W i p)) (sym (listed_at none p K i (omega arith))))
        (known_last laws p prime (sought (Two t)) W Z two_agree emptied.gone d r _ _
        (get_or r (p - 1) none) diagonals row refl refl rows.last
        ∙ ap (λ k. join k (join_below none join (p - 1) (λ i. W i p)))
        (sym (listed_at none p K (p - 1) (omega (arith, hp)))))

    two_last : UpToAntidiagonal none p t.last W B
    two_last = up₂ W (last _ _ two_sums)

    two_first : UpToAntidiagonal none p t.first W B
    two_first r l =
        w₂ r t.first l (omega (arith, t.ordered)) (λ e. omega (arith, t.ordered))
        ∙ up₁ W (row_pair_first laws p t.first t.last t.ordered hp _ d _ _ two_sums y x (last _ _ two_sums) first) r l

    two_data : HasData p W B
    two_data s k x =
        let q = data_facts p s k x in
        ⊎_elim
        (λ (e : k ≡ t.first). rw e (two_first s q.row ∙ grind (arith, nat_tests, q.antidiagonal)))
        (λ (e : k ≡ t.first → ⊥).
        ⊎_elim
        (λ (o : k ≡ t.last). rw o (two_last s q.row ∙ grind (arith, nat_tests, q.antidiagonal)))
        (λ (o : k ≡ t.last → ⊥). w₂ s k q.row (omega (arith, q.column)) o ∙ w₁ s k q.row
        (omega (arith, q.column)) e ∙ two_agree k q.column (grind (arith, nat_tests)) s q.row)
        (cases_eq k t.last))
        (cases_eq k t.first)

    two_columns : (r c : ℕ) → r < p - 1 → c < p → sought (Two t) c ≡ true → D r c ≡ W r c
    two_columns r c h l o =
        let fp : t.first < p = omega (arith, t.ordered) in
        let has = data_kept laws p W enc t.first fp B C s₁ two_data in
        let up : UpToAntidiagonal none p t.last W C =
        λ s b. s₁ s t.last b (omega arith) (λ _ e. omega (arith, t.ordered)) ∙ two_last s b in
        ⊎_elim
        (λ (e : c ≡ t.first).
        rw e (s₂ r t.first h (omega arith) (λ _ k. omega (arith, t.ordered)) ∙ column_done laws p W enc t.first fp B C
        s₁ two_data h₁ two_first r h))
        (λ (e : c ≡ t.first → ⊥).
        let is : c ≡ t.last = grind (arith, nat_tests) in
        rw is (column_done laws p W enc t.last hp C D s₂ has h₂ up r h))
        (cases_eq c t.first)

  pub found_two : FoundColumns none join p (Two t) true X D
  found_two =
      record {
        kept = λ r c h l o.
            let ne : c ≡ t.first → ⊥ = grind (arith, nat_tests) in
            let no : c ≡ t.last → ⊥ = grind (arith, nat_tests) in
            s₂ r c h l (λ _ e. no e) ∙ s₁ r c h l (λ _ e. ne e) ∙ w₂ r c h l no ∙ w₁ r c h l ne ∙ emptied.others r c h
            l o;
        found = λ W enc alike same r c h l o. two_columns W enc alike (same refl) r c h l o;
      }

-- sums along rows that agree over a turn
pub rows_same : {E : Type 0} (none : E) (join : E → E → E) (p : ℕ) (X : ℕ → ℕ → E) (d r r' : List E) → 0 < p
    → ((i : ℕ) → i < p → get_or r' i none ≡ get_or r i none) → RowChains none join p X d r
    → RowChains none join p X d r'
rows_same none join p X d r r' some same k = record {
  chain = λ i l. same i (omega arith) ∙ k.chain i l;
  last = same (p - 1) (omega arith) ∙ k.last
      ∙ ap (λ x. join x (all_of none join p d)) (join_same none join (p - 1) (λ i. get_or r i none)
      (λ i. get_or r' i none) (λ i l. sym (same i (omega arith))));
}

-- Two columns, from the diagonals and the antidiagonals.
module _ {E : Type 0} {none : E} {join : E → E → E} (laws : Laws none join) (p : ℕ) (prime : PrimeFacts p) (t : Pair)
    (hp : t.last < p) (X Z A B : ℕ → ℕ → E) (emptied : Emptied none p (λ c. eqb c t.first || eqb c t.last) X Z)
    (d a x y : List E) (e : E) (diagonals : ChainJoins none join p Z Diagonal d)
    (antidiagonals : ChainJoins none join p Z Antidiagonal a)
    (all : e ≡ join (all_of none join p d) (all_of none join p a))
    (cells : (W : ℕ → ℕ → E) (r : List E) → Encoded none join p W → KnownSums none join p (sought (Two t)) W d a r e
    → ListsColumn none p W t.first x × ListsColumn none p W t.last y) (w₁ : Elsewhere p t.first Z A)
    (w₂ : Elsewhere p t.last A B) (h₁ : (r : ℕ) → r < p - 1 → A r t.first ≡ get_or x r none)
    (h₂ : (r : ℕ) → r < p - 1 → B r t.last ≡ get_or y r none) where
  pub found_crossed : FoundColumns none join p (Two t) false X B
  found_crossed =
      record {
        kept = λ r c h l o. w₂ r c h l (grind (arith, nat_tests)) ∙ w₁ r c h l
            (grind (arith, nat_tests)) ∙ emptied.others r c h l o;
        found = λ W enc alike _ r c h l o.
            let agree : (k : ℕ) → k < p → sought (Two t) k ≡ false → (s : ℕ) → s < p - 1 → Z s k ≡ W s k =
            λ k b off s q. emptied.others s k q (omega arith) off ∙ alike k b off s q in
            let T = sought (Two t) in
            let known = known_sums laws p prime T W Z agree emptied.gone d a e
            (known_diagonal laws p prime T W Z agree emptied.gone d diagonals)
            (known_antidiagonal laws p prime T W Z agree emptied.gone a antidiagonals)
            (known_excess laws p prime T W Z agree emptied.gone d a _ _ e diagonals antidiagonals refl refl all)
            in
            let is = cells W _ enc known in
            ⊎_elim
            (λ (k : c ≡ t.first). rw k (w₂ r t.first h (omega (arith, t.ordered))
            (λ q. omega (arith, t.ordered)) ∙ h₁ r h ∙ is.0 r h))
            (λ (k : c ≡ t.first → ⊥). let q : c ≡ t.last = grind (arith, nat_tests) in rw q (h₂ r h ∙ is.1 r h))
            (cases_eq c t.first);
      }

-- Three columns, from all chains.
module _ {E : Type 0} {none : E} {join : E → E → E} (laws : Laws none join) (p : ℕ) (prime : PrimeFacts p)
    (t : Triple) (hp : t.last < p) (X Z A B C : ℕ → ℕ → E)
    (emptied : Emptied none p (λ c. eqb c t.first || (eqb c t.middle || eqb c t.last)) X Z) (d a r x m y : List E)
    (e : E) (diagonals : ChainJoins none join p Z Diagonal d)
    (antidiagonals : ChainJoins none join p Z Antidiagonal a) (rows : RowChains none join p Z d r)
    (all : e ≡ join (all_of none join p d) (all_of none join p a))
    (cells : (W : ℕ → ℕ → E) (k : List E) → Encoded none join p W → KnownSums none join p (sought (Three t)) W d a k e
    → RowSums none join p W k r → ListsColumn none p W t.first x × ListsColumn none p W t.middle m
    × ListsColumn none p W t.last y) (w₁ : Elsewhere p t.first Z A) (w₂ : Elsewhere p t.middle A B)
    (w₃ : Elsewhere p t.last B C) (h₁ : (r : ℕ) → r < p - 1 → A r t.first ≡ get_or x r none)
    (h₂ : (r : ℕ) → r < p - 1 → B r t.middle ≡ get_or m r none)
    (h₃ : (r : ℕ) → r < p - 1 → C r t.last ≡ get_or y r none) where
  module _ (W : ℕ → ℕ → E) (enc : Encoded none join p W) (alike : Alike p (Three t) X W) (same : AlikeRows p X W) where
    three_agree : (k : ℕ) → k < p → sought (Three t) k ≡ false → (s : ℕ) → s < p - 1 → Z s k ≡ W s k
    three_agree k b off s q = emptied.others s k q (omega arith) off ∙ alike k b off s q

    three_cells : ListsColumn none p W t.first x × ListsColumn none p W t.middle m × ListsColumn none p W t.last y
    three_cells =
        let T = sought (Three t) in
        let K = across laws p prime T W Z three_agree emptied.gone in
        let row : (i : ℕ) → i < p - 1 → get_or r i none ≡ join (K i) (W i p) =
        λ i l. known_row laws p prime T W Z three_agree emptied.gone i l
        (emptied.others i p l (omega arith) (grind (arith, nat_tests, t.ordered, t.ascending)) ∙ same i l)
        (get_or r i none) (rows.chain i l) in
        cells W _ enc
        (known_sums laws p prime T W Z three_agree emptied.gone d a e
        (known_diagonal laws p prime T W Z three_agree emptied.gone d diagonals)
        (known_antidiagonal laws p prime T W Z three_agree emptied.gone a antidiagonals)
        (known_excess laws p prime T W Z three_agree emptied.gone d a _ _ e diagonals antidiagonals refl refl
        all))
        (record {
          rows = λ i l. row i l ∙ ap (λ k. join k (W i p)) (sym (listed_at none p K i (omega arith)));
          last = known_last laws p prime T W Z three_agree emptied.gone d r _ _
              (get_or r (p - 1) none) diagonals row refl refl rows.last
              ∙ ap (λ k. join k (join_below none join (p - 1) (λ i. W i p)))
              (sym (listed_at none p K (p - 1) (omega (arith, hp))));
        })

    three_columns : (s c : ℕ) → s < p - 1 → sought (Three t) c ≡ true → C s c ≡ W s c
    three_columns s c h o =
        let is = three_cells in
        ⊎_elim
        (λ (k : c ≡ t.first).
        rw k (w₃ s t.first h (omega (arith, t.ordered, t.ascending))
        (λ q. omega (arith, t.ordered, t.ascending)) ∙ w₂ s t.first h (omega (arith, t.ordered, t.ascending))
        (λ q. omega (arith, t.ordered)) ∙ h₁ s h ∙ is.0 s h))
        (λ (k : c ≡ t.first → ⊥).
        ⊎_elim
        (λ (q : c ≡ t.middle). rw q (w₃ s t.middle h (omega (arith, t.ascending))
        (λ b. omega (arith, t.ascending)) ∙ h₂ s h ∙ is.1 s h))
        (λ (q : c ≡ t.middle → ⊥). let b : c ≡ t.last = grind (arith, nat_tests) in rw b (h₃ s h ∙ is.2 s h))
        (cases_eq c t.middle))
        (cases_eq c t.first)

  pub found_three : FoundColumns none join p (Three t) true X C
  found_three =
      record {
        kept = λ s c h l o. w₃ s c h l (grind (arith, nat_tests)) ∙ w₂ s c h l (grind (arith, nat_tests)) ∙ w₁ s c h l
            (grind (arith, nat_tests)) ∙ emptied.others s c h l o;
        found = λ W enc alike same s c h l o. three_columns W enc alike (same refl) s c h o;
      }

-- The columns below p solved, from those that were sought.
pub sought_apart : (p : ℕ) (s : Sought) → SoughtBelow p s → sought s p ≡ false
sought_apart p Nothing below = refl
sought_apart p (One f) below = grind (arith, nat_tests)
sought_apart p (Two t) below = grind (arith, nat_tests, t.ordered)
sought_apart p (Three t) below = grind (arith, nat_tests, t.ordered, t.ascending)

module _ {E : Type 0} (none : E) (join : E → E → E) (p : ℕ) (lost : Columns) (s : Sought) (seeks : Seeks p lost s)
    (X Y : ℕ → ℕ → E) where
  pub solved_below : (rows : Bool) → (rows ≡ true → in_set lost p ≡ false) → FoundColumns none join p s rows X Y
      → SolvedBelow none join p (in_set lost) X Y
  solved_below rows keeps f =
      let off : (c : ℕ) → c ≤ p → (c < p → in_set lost c ≡ false) → sought s c ≡ false =
      λ c l o. ⊎_elim (λ (e : c ≡ p). rw e (sought_apart p s seeks.below))
      (λ (e : c ≡ p → ⊥). sym (seeks.all c (omega arith)) ∙ o (omega arith)) (cases_eq c p) in
      record {
        kept = λ r c h l o. f.kept r c h l (off c l o);
        whole = λ W enc agree r c h l.
            let alike : Alike p s X W = λ k b o i q. agree i k q (omega arith) (seeks.all k b ∙ o) in
            ⊎_elim
            (λ (o : sought s c ≡ true). f.found W enc alike (λ e i q. agree i p q (omega arith) (keeps e)) r c h l o)
            (λ (o : sought s c ≡ false). f.kept r c h (omega arith) o ∙ alike c l o r h)
            (cases_Bool (sought s c));
      }

-- The whole stripe solved, where the row parities are set after the other columns.
module _ {E : Type 0} (none : E) (join : E → E → E) (p : ℕ) (lost : ℕ → Bool) (X Y Q : ℕ → ℕ → E)
    (below : SolvedBelow none join p lost X Y) where
  pub solved_set : lost p ≡ true → Elsewhere p p Y Q → ((r : ℕ) → r < p - 1 → Q r p ≡ line_join none join p Y Row r)
      → Solved none join p lost X Q
  solved_set on w here =
      record {
        kept = λ r c h l o.
            let ne : c ≡ p → ⊥ = λ e. both_ways (lost p) (sym (ap lost e) ∙ o) on in
            sym (w r c h l ne ∙ below.kept r c h l (λ _. o));
        whole = λ W enc agree r c h l.
            let is = below.whole W enc agree in
            ⊎_elim
            (λ (k : c ≡ p). rw k (here r h ∙ line_same none join p Y W Row r
            (λ i j x. let q = data_facts p i j x in is i j q.row q.column) ∙ sym (enc.row r h)))
            (λ (k : c ≡ p → ⊥). w r c h l k ∙ is r c h (omega arith))
            (cases_eq c p);
      }

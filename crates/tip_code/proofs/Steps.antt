-- Encoding at a prime that is known: what each step gives.
use Rattle.std.proofs.Common.{◌≡◌, ℕ, ◌+◌, ◌-◌, ◌*◌, ◌<◌, ◌≤◌, Bool, true, false, cond, not, ◌||◌, eqb, ltb, min, max, List, length, set, get_or, get_or-set_other, get_or-set_same, sym, ap, ◌∙◌, subst, ⊎_elim, arith, refl, zero-mul}
use Rattle.std.proofs.Math.Nat.{min-eq_left, min-eq_right}
use Rattle.std.proofs.lemmas.Bool.Decides.{nat_tests}
use Rattle.std.proofs.lemmas.Bool.{cases_eq, eqb-true, both_ways}
use Rattle.std.specs.List.{list_all}
use Rattle.tip_element.specs.Counts.{join_below, count_below}
use Rattle.tip_code.specs.Encoding.{datum, line_join}
use Rattle.tip_code.specs.Geometry.{cells_in}
use Rattle.tip_code.specs.Places.{Place, place_number}
use Rattle.tip_code.specs.Primes.{primes, listed}
use Rattle.tip_code.specs.Joining.{joined_to, row_to, LinesJoined, Placed}
use Rattle.tip_code.specs.Stripe.{cell_index, stripe_of, data_cell, crossing}
use Rattle.tip_code.specs.declared.chain.Direction.{Direction}
use Rattle.tip_code.proofs.Cells.{data_facts, index_apart, index_before}
use Rattle.tip_code.proofs.Filling.{set_here, set_other}
use Rattle.tip_code.proofs.Numbers.{number_is}
use Rattle.tip_code.proofs.Tables.{all_below, all_at, implied, prime_at}

-- one element more is written
pub stored_more : {E : Type 0} (none : E) (f : ℕ → E) (i : ℕ) (ys : List E) (v : E) → i < length ys → v ≡ f i
    → ((k : ℕ) → k < i → get_or ys k none ≡ f k) → (k : ℕ) → k < i + 1 → get_or (set ys i v) k none ≡ f k
stored_more none f i ys v h is before k low =
    ⊎_elim
    (λ (e : k ≡ i). ap (λ n. get_or (set ys i v) n none) e ∙ get_or-set_same ys i v none h ∙ is ∙ ap f (sym e))
    (λ (e : k ≡ i → ⊥). get_or-set_other ys i k v none e ∙ before k (omega arith))
    (cases_eq k i)

-- the join of all columns below p is that of the row
pub row_whole : {E : Type 0} (none : E) (join : E → E → E) (p : ℕ) (X : ℕ → ℕ → E) (i n : ℕ) → p ≤ n
    → row_to none join p X i n ≡ join_below none join p (X i)
row_whole none join p X i n h = ap (λ m. join_below none join m (X i)) (min-eq_right h)

module _ {E : Type 0} (none : E) (join : E → E → E) (p : ℕ) (X : ℕ → ℕ → E) (d : Direction) where
  -- the join of all columns is that of the line
  pub joined_whole : (i n : ℕ) → p ≤ n → joined_to none join p X d i n ≡ line_join none join p X d i
  joined_whole i n h = ap (λ m. join_below none join m (λ c. datum none p X (crossing p d i c) c)) (min-eq_right h)

  -- the join of one line more
  pub joined_more : (i : ℕ) (ys : List E) (v : E) → length ys ≡ p - 1 → i < p - 1 → v ≡ line_join none join p X d i
      → LinesJoined none join p X d i ys → LinesJoined none join p X d (i + 1) (set ys i v)
  joined_more i ys v len h is before k low below =
      stored_more none (line_join none join p X d) i ys v (omega arith) is (λ j l. before j l (omega arith)) k low

  -- or of none
  pub joined_past : (i : ℕ) (ys : List E) → p - 1 ≤ i → LinesJoined none join p X d i ys → LinesJoined none join p X d (i + 1) ys
  joined_past i ys h before k low below = before k (omega arith) below

  pub joined_none : (ys : List E) → LinesJoined none join p X d 0 ys
  joined_none ys i h = absurd (omega (arith, h))

module _ {E : Type 0} (none : E) (p : ℕ) (f : ℕ → E) where
  -- one data cell more
  pub held_more : (r c : ℕ) (xs : List E) (v : E) → length xs ≡ cells_in p → data_cell p r c ≡ true
      → v ≡ f (place_number p r c) → Placed p f (cell_index p r c) (stripe_of none p xs)
      → Placed p f (cell_index p r c + 1) (stripe_of none p (set xs (cell_index p r c) v))
  held_more r c xs v len x is before s d y low =
      let a = data_facts p r c x in
      let b = data_facts p s d y in
      ⊎_elim
      (λ (e : cell_index p s d ≡ cell_index p r c).
      let same = index_apart p s d r c b.row a.row e in
      ap (λ q. stripe_of none p (set xs (cell_index p r c) v) q d) same.0
      ∙ ap (stripe_of none p (set xs (cell_index p r c) v) r) same.1
      ∙ set_here none p xs v r c len a.row (omega (arith, a.column))
      ∙ is ∙ sym (ap (λ q. f (place_number p q d)) same.0 ∙ ap (λ q. f (place_number p r q)) same.1))
      (λ (e : cell_index p s d ≡ cell_index p r c → ⊥).
      set_other none p xs v s d r c b.row a.row
      (λ rows columns. e (ap (λ q. cell_index p q d) rows ∙ ap (cell_index p r) columns))
      ∙ before s d y (omega arith))
      (cases_eq (cell_index p s d) (cell_index p r c))

  -- or a cell that holds none
  pub held_skip : (r c : ℕ) (X : ℕ → ℕ → E) → r < p - 1 → data_cell p r c ≡ false
      → Placed p f (cell_index p r c) X → Placed p f (cell_index p r c + 1) X
  held_skip r c X h x before s d y low =
      ⊎_elim
      (λ (e : cell_index p s d ≡ cell_index p r c).
      let same = index_apart p s d r c (data_facts p s d y).row h e in
      absurd (both_ways (data_cell p r c) x (sym (ap (λ q. data_cell p q d) same.0 ∙ ap (data_cell p r) same.1) ∙ y)))
      (λ (e : cell_index p s d ≡ cell_index p r c → ⊥). before s d y (omega arith))
      (cases_eq (cell_index p s d) (cell_index p r c))

module _ {E : Type 0} (p : ℕ) (f : ℕ → E) where
  -- no column yet
  pub held_none : (X : ℕ → ℕ → E) → Placed p f (min 0 p * (p - 1)) X
  held_none X r c x low =
      let first : min 0 p ≡ 0 = min-eq_left (omega arith) in
      let here : cell_index p r c < 0 =
      subst (λ (n : ℕ). cell_index p r c < n) (ap (λ n. n * (p - 1)) first ∙ zero-mul (p - 1)) low in
      absurd (omega (arith, here))

  -- all of them
  pub held_whole : (n : ℕ) (X : ℕ → ℕ → E) → p ≤ n → Placed p f (min n p * (p - 1)) X
      → (m r c : ℕ) → Place p m r c → X r c ≡ f m
  held_whole n X h held m r c at =
      let a = data_facts p r c at.holds in
      let low : cell_index p r c < min n p * (p - 1) =
      subst (λ (k : ℕ). cell_index p r c < k * (p - 1)) (sym (min-eq_right h)) (index_before p r c a.row a.column) in
      held r c at.holds low ∙ ap f at.numbered

module _ {E : Type 0} (none : E) (p : ℕ) (f : ℕ → E) where
  next_index : (r c : ℕ) → cell_index p r c + 1 ≡ cell_index p (r + 1) c
  next_index r c = omega arith

  pub cell_held : (r c : ℕ) (xs : List E) (v : E) → length xs ≡ cells_in p → data_cell p r c ≡ true
      → v ≡ f (place_number p r c) → Placed p f (cell_index p r c) (stripe_of none p xs)
      → Placed p f (cell_index p (r + 1) c) (stripe_of none p (set xs (cell_index p r c) v))
  cell_held r c xs v len x is before =
      subst (λ (m : ℕ). Placed p f m (stripe_of none p (set xs (cell_index p r c) v))) (next_index r c)
      (held_more none p f r c xs v len x is before)

  pub cell_skipped : (r c : ℕ) (X : ℕ → ℕ → E) → r < p - 1 → data_cell p r c ≡ false
      → Placed p f (cell_index p r c) X → Placed p f (cell_index p (r + 1) c) X
  cell_skipped r c X h x before = subst (λ (m : ℕ). Placed p f m X) (next_index r c) (held_skip none p f r c X h x before)

-- a column without those of two parity cells to its left
abbrev kept : ℕ → ℕ → ℕ → ℕ
kept c h k = cond (ltb k c) (c - 2) (cond (ltb h c) (c - 1) c)

abbrev lefts : ℕ → Bool
lefts p =
    all_below (p - 1) (λ r. all_below p (λ c. not (data_cell p r c)
    || eqb (kept c (min (r + 1) (p - 1 - r)) (max (r + 1) (p - 1 - r))) (count_below c (data_cell p r))))

lefts_table : list_all lefts primes ≡ true
unfolding data_cell
lefts_table = refl

kept_is : (c h k m : ℕ) → (k < c → m ≡ c - 2) → (h < c → c ≤ k → m ≡ c - 1) → (c ≤ h → c ≤ k → m ≡ c) → m ≡ kept c h k
kept_is c h k m both one none = grind (arith, nat_tests, both, one, none)

module _ (p : ℕ) (t : listed p ≡ true) where
  -- how many data cells stand to the left of a data cell
  left_is : (r c : ℕ) → data_cell p r c ≡ true
      → kept c (min (r + 1) (p - 1 - r)) (max (r + 1) (p - 1 - r)) ≡ count_below c (data_cell p r)
  left_is r c x =
      let f = data_facts p r c x in
      let here = all_at p _ (all_at (p - 1) _ (prime_at lefts lefts_table p t) r f.row) c f.column in
      eqb-true _ _ (implied (data_cell p r c) _ here x)

  -- and its place
  pub place_by : (r c h k m : ℕ) → data_cell p r c ≡ true → h ≡ min (r + 1) (p - 1 - r) → k ≡ max (r + 1) (p - 1 - r)
      → (k < c → m ≡ c - 2) → (h < c → c ≤ k → m ≡ c - 1) → (c ≤ h → c ≤ k → m ≡ c)
      → r * (p - 2) + m ≡ place_number p r c
  place_by r c h k m x eh ek both one none =
      let f = data_facts p r c x in
      let here : m ≡ count_below c (data_cell p r) = kept_is c h k m both one none ∙ ap (λ a. kept c a k) eh
      ∙ ap (kept c (min (r + 1) (p - 1 - r))) ek ∙ left_is r c x in
      ap (λ n. r * (p - 2) + n) here ∙ sym (number_is p t r c f.row)

-- The middle one of three unknown columns: four joins that cross in it leave it alone, and two divisions then give it.
use Rattle.std.proofs.Common.{◌≡◌, ℕ, ◌+◌, ◌-◌, ◌%◌, ◌<◌, List, [], ◌∷◌, get_or, sym, ap, ◌∙◌, mod-lt, arith}
use Rattle.tip_element.specs.Counts.{join_below}
use Rattle.tip_element.specs.Laws.{Laws}
use Rattle.tip_element.proofs.Joins.{join_same}
use Rattle.tip_code.specs.Primes.{PrimeFacts}
use Rattle.tip_algebra.specs.Cyclic.{Per, Holds, Steps, Divided}
use Rattle.tip_algebra.specs.Unknown.{PairSums, RowPairSums, TripleSums}
use Rattle.tip_algebra.proofs.Constants.{fixed}
use Rattle.tip_algebra.proofs.Cyclic.{per_at, per_mod, per_mod_add, held_mod, held_mod_add}
use Rattle.tip_algebra.proofs.Group.{v, ◌⊕◌, ◌≐◌, solve, solveBy}
use Rattle.tip_algebra.proofs.Pair.{two_per}
use Rattle.tip_algebra.proofs.Sums.{sum_join, sum_shift, sum_odd}

-- M joined with itself moved on by w: what the first division gives
abbrev stepped : {E : Type 0} → (E → E → E) → ℕ → ℕ → (ℕ → E) → ℕ → E
stepped join p w M n = join (M n) (M (n + (p - w)))

-- a join of three columns, each moved, repeats as they do
three_per : {E : Type 0} (join : E → E → E) (p a b c : ℕ) (X M Y : ℕ → E) → Per p X → Per p M → Per p Y → Per p (λ i. join (join (X (i + a)) (M (i + b))) (Y (i + c)))
three_per join p a b c X M Y px pm py i = grind (arith, two_per join p a b X M px pm i, py (i + c))

module _ {E : Type 0} {none : E} {join : E → E → E} (laws : Laws none join) (p : ℕ) (M : ℕ → E) (per : Per p M) (w : ℕ) (low : w < p) where
  -- over a whole turn a column stepped joins to zero
  stepped_sum : join_below none join p (stepped join p w M) ≡ none
  stepped_sum =
      sum_join laws p M (λ n. M (n + (p - w)))
      ∙ ap (join (join_below none join p M)) (sum_shift laws p (p - w) M per)
      ∙ laws.cancel (join_below none join p M)

  -- so the constant is the join of all that the division leaves: an odd number of copies of it
  constant : (y : List E) → p % 2 ≡ 1 → Divided none join p 0 y (stepped join p w M)
      → join_below none join p (λ i. get_or y i none) ≡ stepped join p w M 0
  constant y odd d =
      let W = stepped join p w M in
      join_same none join p (λ i. get_or y i none) (λ i. join (W i) (W 0)) d
      ∙ sum_join laws p W (λ _. W 0)
      ∙ ap (λ x. join x (join_below none join p (λ _. W 0))) stepped_sum
      ∙ laws.neutral (join_below none join p (λ _. W 0))
      ∙ sum_odd laws p (W 0) odd

  -- with it the second division has its joins
  stepped_steps : (y : List E) → Holds none p y (stepped join p w M) → Steps none join p w y M
  stepped_steps y h i b =
      let pos : 0 < p = omega arith in
      h ((i + w) % p) (mod-lt (i + w) pos)
      ∙ ap (join (M ((i + w) % p))) (per_mod_add p M per (i + w) (p - w) ∙ per_at p M per 0 1 (i + w + (p - w)) i (omega arith))

module _ {E : Type 0} {none : E} {join : E → E → E} (laws : Laws none join) (p f g h : ℕ) (fg : f < g) (gh : g < h) (hp : h < p) (r d a : List E) (X M Y : ℕ → E) (s : TripleSums none join p f g h r d a X M Y) where
  -- two rows, a diagonal and an antidiagonal through the corners of a cross leave the middle column
  middle_steps : (z : List E) → ((i : ℕ) → i < p → get_or z i none ≡ join (join (join (get_or r i none) (get_or r ((i + (p + f - h)) % p) none)) (get_or d ((i + f) % p) none)) (get_or a ((i + (p - h)) % p) none)) → Steps none join p (g - f) z (stepped join p (h - g) M)
  middle_steps z hz i low =
      let k = i + (g - f) in
      let pos : 0 < p = omega arith in
      let px = s.first in
      let pm = s.middle in
      let py = s.last in
      let R = λ (m : ℕ). join (join (X m) (M m)) (Y m) in
      let D = λ (m : ℕ). join (join (X (m + (p - f))) (M (m + (p - g)))) (Y (m + (p - h))) in
      let A = λ (m : ℕ). join (join (X (m + f)) (M (m + g))) (Y (m + h)) in
      let rp : Per p R = λ m. cc (px m, pm m, py m) in
      let dp = three_per join p (p - f) (p - g) (p - h) X M Y px pm py in
      let ap' = three_per join p f g h X M Y px pm py in
      let r₁ = held_mod none p R rp r s.row pos k in
      let r₂ = held_mod_add none p R rp r s.row pos k (p + f - h) in
      let d₁ = held_mod_add none p D dp d s.diagonal pos k f in
      let a₁ = held_mod_add none p A ap' a s.antidiagonal pos k (p - h) in
      let n = k % p in
      let b = k + (p + f - h) in
      let e = k + f in
      let j = k + (p - h) in
      hz n (mod-lt k pos)
      ∙ solveBy laws
      (get_or r n none ∷ get_or r ((n + (p + f - h)) % p) none ∷ get_or d ((n + f) % p) none ∷ get_or a ((n + (p - h)) % p) none
      ∷ X k ∷ M k ∷ Y k ∷ X b ∷ M b ∷ Y b
      ∷ X (e + (p - f)) ∷ M (e + (p - g)) ∷ Y (e + (p - h)) ∷ X (j + f) ∷ M (j + g) ∷ Y (j + h)
      ∷ M n ∷ M (n + (p - (h - g))) ∷ M i ∷ M (i + (p - (h - g))) ∷ [])
      (((v 0 ⊕ v 1) ⊕ v 2) ⊕ v 3) ((v 16 ⊕ v 17) ⊕ (v 18 ⊕ v 19))
      ((v 0 ≐ v 4 ⊕ v 5 ⊕ v 6) ∷ (v 1 ≐ v 7 ⊕ v 8 ⊕ v 9) ∷ (v 2 ≐ v 10 ⊕ v 11 ⊕ v 12) ∷ (v 3 ≐ v 13 ⊕ v 14 ⊕ v 15)
      ∷ (v 10 ≐ v 4) ∷ (v 13 ≐ v 7) ∷ (v 12 ≐ v 9) ∷ (v 15 ≐ v 6)
      ∷ (v 5 ≐ v 16) ∷ (v 14 ≐ v 17) ∷ (v 11 ≐ v 18) ∷ (v 8 ≐ v 19) ∷ [])
      tt
      (r₁, (r₂, (d₁, (a₁, (per_at p X px 0 1 _ _ (omega arith), (per_at p X px 0 0 _ _ (omega arith), (per_at p Y py 0 0 _ _ (omega arith), (per_at p Y py 0 1 _ _ (omega arith), (sym (per_mod p M pm k), (per_at p M pm 0 0 (j + g) (k + (p - (h - g))) (omega arith) ∙ sym (per_mod_add p M pm k (p - (h - g))), (per_at p M pm 0 1 _ _ (omega arith), (per_at p M pm 0 0 _ _ (omega arith), tt))))))))))))

  -- the middle column, from what each step of the code leaves
  pub middle_found : (prime : PrimeFacts p) (z w₀ w m : List E) (c : E)
      → ((i : ℕ) → i < p → get_or z i none ≡ join (join
      (join (get_or r i none) (get_or r ((i + (p + f - h)) % p) none)) (get_or d ((i + f) % p) none))
      (get_or a ((i + (p - h)) % p) none)) → ((t : ℕ → E) → Steps none join p (g - f) z t
      → Divided none join p 0 w₀ t) → c ≡ join_below none join p (λ i. get_or w₀ i none)
      → ((i : ℕ) → i < p → get_or w i none ≡ join (get_or w₀ i none) c)
      → ((t : ℕ → E) → Steps none join p (h - g) w t → t (p - 1 - g) ≡ none → Holds none p m t) → Holds none p m M
  middle_found prime z w₀ w m c hz first ce hw second =
      let W = stepped join p (h - g) M in
      let d₁ = first W (middle_steps z hz) in
      let held = fixed laws p 0 w₀ w c W d₁ (ce ∙ constant laws p M s.middle (h - g) (omega arith) w₀ prime.odd d₁) hw
      in
      second M (stepped_steps laws p M s.middle (h - g) (omega arith) w held) s.middle_zero

  -- with it joined into the diagonals and antidiagonals, two unknown columns are left
  pub pair_left : (m d' a' : List E) → Holds none p m M → ((i : ℕ) → i < p → get_or d' i none ≡ join (get_or d i none) (get_or m ((i + (p - g)) % p) none)) → ((i : ℕ) → i < p → get_or a' i none ≡ join (get_or a i none) (get_or m ((i + g) % p) none)) → PairSums none join p f h d' a' X Y
  pair_left m d' a' hm hd ha =
      let pos : 0 < p = omega arith in
      record {
        first = s.first;
        last = s.last;
        last_zero = s.last_zero;
        diagonal = λ i low.
            hd i low ∙ ap (λ x. join x (get_or m ((i + (p - g)) % p) none)) (s.diagonal i low) ∙ ap (join (join (join (X (i + (p - f))) (M (i + (p - g)))) (Y (i + (p - h))))) (held_mod none p M s.middle m hm pos (i + (p - g)))
            ∙ solve laws (X (i + (p - f)) ∷ M (i + (p - g)) ∷ Y (i + (p - h)) ∷ []) (((v 0 ⊕ v 1) ⊕ v 2) ⊕ v 1) (v 0 ⊕ v 2) tt;
        antidiagonal = λ i low.
            ha i low ∙ ap (λ x. join x (get_or m ((i + g) % p) none)) (s.antidiagonal i low) ∙ ap (join (join (join (X (i + f)) (M (i + g))) (Y (i + h)))) (held_mod none p M s.middle m hm pos (i + g))
            ∙ solve laws (X (i + f) ∷ M (i + g) ∷ Y (i + h) ∷ []) (((v 0 ⊕ v 1) ⊕ v 2) ⊕ v 1) (v 0 ⊕ v 2) tt;
      }

  -- and the same with it joined into the rows and the diagonals
  pub rows_left : (m r' d' : List E) → Holds none p m M
      → ((i : ℕ) → i < p → get_or r' i none ≡ join (get_or r i none) (get_or m i none))
      → ((i : ℕ) → i < p → get_or d' i none ≡ join (get_or d i none) (get_or m ((i + (p - g)) % p) none))
      → RowPairSums none join p f h r' d' X Y
  rows_left m r' d' hm hr hd =
      let pos : 0 < p = omega arith in
      record {
        first = s.first;
        last = s.last;
        last_zero = s.last_zero;
        row = λ i low.
            hr i low ∙ ap (λ x. join x (get_or m i none)) (s.row i low) ∙ ap (join (join (join (X i) (M i)) (Y i)))
            (hm i low)
            ∙ solve laws (X i ∷ M i ∷ Y i ∷ []) (((v 0 ⊕ v 1) ⊕ v 2) ⊕ v 1) (v 0 ⊕ v 2) tt;
        diagonal = λ i low.
            hd i low ∙ ap (λ x. join x (get_or m ((i + (p - g)) % p) none)) (s.diagonal i low) ∙ ap
            (join (join (join (X (i + (p - f))) (M (i + (p - g)))) (Y (i + (p - h)))))
            (held_mod none p M s.middle m hm pos (i + (p - g)))
            ∙ solve laws (X (i + (p - f)) ∷ M (i + (p - g)) ∷ Y (i + (p - h)) ∷ []) (((v 0 ⊕ v 1) ⊕ v 2) ⊕ v 1)
            (v 0 ⊕ v 2) tt;
      }

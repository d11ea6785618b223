-- Two unknown columns from their joins along diagonals and antidiagonals.
use Rattle.std.proofs.Common.{◌≡◌, ℕ, ◌+◌, ◌-◌, ◌%◌, ◌<◌, List, [], ◌∷◌, get_or, sym, ap, ◌∙◌, mod-lt, arith}
use native.Mathlib.Nat.{add-mod-mod}
use Rattle.tip_element.specs.Laws.{Laws}
use Rattle.tip_code.proofs.Remainders.{wrap_low, wrap_high}
use Rattle.tip_algebra.specs.Cyclic.{Per, Holds, Steps}
use Rattle.tip_algebra.specs.Unknown.{PairSums, RowPairSums}
use Rattle.tip_algebra.proofs.Cyclic.{per_at, per_mod, held_mod, held_mod_add}
use Rattle.tip_algebra.proofs.Group.{v, ◌⊕◌, ◌≐◌, solve, solveBy}

-- twice a distance is no multiple of p, which is odd
pub doubled : (p u n : ℕ) → 0 < u → u < p → p % 2 ≡ 1 → n ≡ (u + u) % p → 0 < n
doubled p u n h l odd e = grind (arith, wrap_low p (u + u), wrap_high p (u + u))

-- a join of two columns, each moved, repeats as they do
pub two_per : {E : Type 0} (join : E → E → E) (p a b : ℕ) (X Y : ℕ → E) → Per p X → Per p Y → Per p (λ i. join (X (i + a)) (Y (i + b)))
two_per join p a b X Y px py i = grind (arith, px (i + a), py (i + b))

module _ {E : Type 0} {none : E} {join : E → E → E} (laws : Laws none join) (p f h : ℕ) (fh : f < h) (hp : h < p) (d a : List E) (X Y : ℕ → E) (s : PairSums none join p f h d a X Y) where
  -- a diagonal and the antidiagonal that meets it in column f leave column h and itself moved by twice the distance
  pub pair_steps : (z : List E) (u : ℕ) → u ≡ (h - f + (h - f)) % p → ((i : ℕ) → i < p → get_or z i none ≡ join (get_or d ((i + (p + f + f - h)) % p) none) (get_or a ((i + (p - h)) % p) none)) → Steps none join p u z Y
  pair_steps z u eu hz i low =
      let k = i + (h - f + (h - f)) in
      let n = (i + u) % p in
      let at : n ≡ k % p = ap (λ m. (i + m) % p) eu ∙ add-mod-mod i (h - f + (h - f)) p in
      let pos : 0 < p = omega arith in
      let D = λ (m : ℕ). join (X (m + (p - f))) (Y (m + (p - h))) in
      let A = λ (m : ℕ). join (X (m + f)) (Y (m + h)) in
      let px = s.first in
      let py = s.last in
      let dd = held_mod_add none p D (two_per join p (p - f) (p - h) X Y px py) d s.diagonal pos k (p + f + f - h) in
      let aa = held_mod_add none p A (two_per join p f h X Y px py) a s.antidiagonal pos k (p - h) in
      ap (λ m. get_or z m none) at
      ∙ hz (k % p) (mod-lt k pos)
      ∙ ap (λ e. join e (get_or a ((k % p + (p - h)) % p) none)) dd ∙ ap (join (D (k + (p + f + f - h)))) aa
      ∙ solveBy laws
      (X (k + (p + f + f - h) + (p - f)) ∷ Y (k + (p + f + f - h) + (p - h)) ∷ X (k + (p - h) + f) ∷ Y (k + (p - h) + h) ∷ Y (k % p) ∷ Y i ∷ [])
      ((v 0 ⊕ v 1) ⊕ (v 2 ⊕ v 3)) (v 4 ⊕ v 5)
      ((v 0 ≐ v 2) ∷ (v 1 ≐ v 5) ∷ (v 3 ≐ v 4) ∷ [])
      tt
      (per_at p X px 0 1 _ _ (omega arith), (per_at p Y py 0 2 _ _ (omega arith), (per_at p Y py 0 1 (k + (p - h) + h) k (omega arith) ∙ sym (per_mod p Y py k), tt)))
      ∙ ap (λ m. join (Y m) (Y i)) (sym at)

  -- column f, where column h is known
  pub pair_first : (y x : List E) → Holds none p y Y → ((i : ℕ) → i < p → get_or x i none ≡ join (get_or d ((i + f) % p) none) (get_or y ((i + (p + f - h)) % p) none)) → Holds none p x X
  pair_first y x hy hx i low =
      let pos : 0 < p = omega arith in
      let D = λ (m : ℕ). join (X (m + (p - f))) (Y (m + (p - h))) in
      let px = s.first in
      let py = s.last in
      let dd = held_mod none p D (two_per join p (p - f) (p - h) X Y px py) d s.diagonal pos (i + f) in
      let yy = held_mod none p Y py y hy pos (i + (p + f - h)) in
      hx i low ∙ ap (λ e. join e (get_or y ((i + (p + f - h)) % p) none)) dd ∙ ap (join (D (i + f))) yy
      ∙ solveBy laws
      (X (i + f + (p - f)) ∷ Y (i + f + (p - h)) ∷ Y (i + (p + f - h)) ∷ X i ∷ [])
      ((v 0 ⊕ v 1) ⊕ v 2) (v 3)
      ((v 0 ≐ v 3) ∷ (v 1 ≐ v 2) ∷ [])
      tt
      (per_at p X px 0 1 _ _ (omega arith), (per_at p Y py 0 0 _ _ (omega arith), tt))

  -- both columns, from what each step of the code leaves
  pub pair_found : (z y x : List E) (u : ℕ) → u ≡ (h - f + (h - f)) % p → ((i : ℕ) → i < p → get_or z i none ≡ join (get_or d ((i + (p + f + f - h)) % p) none) (get_or a ((i + (p - h)) % p) none)) → ((t : ℕ → E) → Steps none join p u z t → t (p - 1 - h) ≡ none → Holds none p y t) → ((i : ℕ) → i < p → get_or x i none ≡ join (get_or d ((i + f) % p) none) (get_or y ((i + (p + f - h)) % p) none)) → Holds none p x X × Holds none p y Y
  pair_found z y x u eu hz divided hx =
      let held = divided Y (pair_steps z u eu hz) s.last_zero in
      (pair_first y x held hx, held)

module _ {E : Type 0} {none : E} {join : E → E → E} (laws : Laws none join) (p f h : ℕ) (fh : f < h) (hp : h < p)
    (r d : List E) (X Y : ℕ → E) (s : RowPairSums none join p f h r d X Y) where
  -- a row and the diagonal that meets it in column f leave column h and itself moved by the distance
  pub row_pair_steps : (z : List E) → ((i : ℕ) → i < p
      → get_or z i none ≡ join (get_or r i none) (get_or d ((i + f) % p) none)) → Steps none join p (h - f) z Y
  row_pair_steps z hz i low =
      let k = i + (h - f) in
      let pos : 0 < p = omega arith in
      let R = λ (m : ℕ). join (X m) (Y m) in
      let D = λ (m : ℕ). join (X (m + (p - f))) (Y (m + (p - h))) in
      let px = s.first in
      let py = s.last in
      let rr = held_mod none p R (λ m. cc (px m, py m)) r s.row pos k in
      let dd = held_mod_add none p D (two_per join p (p - f) (p - h) X Y px py) d s.diagonal pos k f in
      hz (k % p) (mod-lt k pos)
      ∙ ap (λ e. join e (get_or d ((k % p + f) % p) none)) rr ∙ ap (join (R k)) dd
      ∙ solveBy laws
      (X k ∷ Y k ∷ X (k + f + (p - f)) ∷ Y (k + f + (p - h)) ∷ Y (k % p) ∷ Y i ∷ [])
      ((v 0 ⊕ v 1) ⊕ (v 2 ⊕ v 3)) (v 4 ⊕ v 5)
      ((v 2 ≐ v 0) ∷ (v 3 ≐ v 5) ∷ (v 1 ≐ v 4) ∷ [])
      tt
      (per_at p X px 0 1 _ _ (omega arith), (per_at p Y py 0 1 _ _ (omega arith), (sym (per_mod p Y py k), tt)))

  -- column f, where column h is known
  pub row_pair_first : (y x : List E) → Holds none p y Y
      → ((i : ℕ) → i < p → get_or x i none ≡ join (get_or r i none) (get_or y i none)) → Holds none p x X
  row_pair_first y x hy hx i low =
      hx i low ∙ ap (λ e. join e (get_or y i none)) (s.row i low) ∙ ap (join (join (X i) (Y i))) (hy i low)
      ∙ solve laws (X i ∷ Y i ∷ []) ((v 0 ⊕ v 1) ⊕ v 1) (v 0) tt

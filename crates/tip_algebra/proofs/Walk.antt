-- The walk by steps of u round p indices: it divides by one plus a shift.
use Rattle.std.proofs.Common.{◌≡◌, ℕ, zero, suc, ◌+◌, ◌-◌, ◌*◌, ◌%◌, ◌<◌, ◌≤◌, List, [], ◌∷◌, length, get_or, set, sym, ap, ◌∙◌, add-zero, zero-mul, suc-mul, mod-lt, mod-eq_of_lt, arith, get_or-set_other, get_or-set_same}
use native.Mathlib.Nat.{add-mod_right, add-mod-mod, mod-add-mod}
use Rattle.std.proofs.lemmas.Bool.{cases_eq}
use Rattle.tip_element.specs.Laws.{Laws}
use Rattle.tip_code.specs.Primes.{PrimeFacts}
use Rattle.tip_algebra.specs.Cyclic.{Steps, Divided}
use Rattle.tip_algebra.proofs.Group.{v, ◌⊕◌, ◌≐◌, solveBy}

-- where a walk from k by steps of u is after n of them
abbrev pub walk_place : ℕ → ℕ → ℕ → ℕ → ℕ
walk_place p k u n = (k + n * u) % p

-- Divided, at the indices that the first n steps have reached
abbrev pub Walked : {E : Type 0} → E → (E → E → E) → ℕ → ℕ → ℕ → ℕ → List E → (ℕ → E) → Type 0
Walked none join p k u n y s = (j : ℕ) → j < n → get_or y (walk_place p k u j) none
    ≡ join (s (walk_place p k u j)) (s k)

-- one step more
pub next_place : (p k u n i : ℕ) → 1 ≤ n → i ≡ walk_place p k u (n - 1) → (i + u) % p ≡ walk_place p k u n
next_place p k u zero i h e = absurd (omega arith)
next_place p k u (suc n) i h e =
    let before : suc n - 1 ≡ n = omega arith in
    let next : k + n * u + u ≡ k + suc n * u = omega (arith, suc-mul n u) in
    rw (e, before, mod-add-mod, next)

-- no step yet
pub first_place : (p k u : ℕ) → k < p → walk_place p k u 0 ≡ k
first_place p k u low = ap (λ n. (k + n) % p) (zero-mul u) ∙ ap (λ n. n % p) (add-zero k) ∙ mod-eq_of_lt low

module _ {E : Type 0} {none : E} {join : E → E → E} (laws : Laws none join) where
  pub walked_none : (p k u : ℕ) (y : List E) (x : E) (s : ℕ → E) → k < p → x ≡ none → k < length y
      → Walked none join p k u 1 (set y k x) s
  walked_none p k u y x s low e h j l =
      let at : walk_place p k u j ≡ k = ap (walk_place p k u) (omega arith) ∙ first_place p k u low in
      rw at (get_or-set_same y k x none h ∙ e ∙ sym (laws.cancel (s k)))

  -- what the walk carries along
  pub walked_next : (p k u i n : ℕ) (z : List E) (a x : E) (s : ℕ → E) → i < p → n ≡ (i + u) % p
      → a ≡ join (s i) (s k) → x ≡ join a (get_or z n none) → Steps none join p u z s → x ≡ join (s n) (s k)
  walked_next p k u i n z a x s low en before val steps =
      solveBy laws (x ∷ a ∷ get_or z n none ∷ s i ∷ s k ∷ s n ∷ []) (v 0) (v 5 ⊕ v 4)
      ((v 0 ≐ v 1 ⊕ v 2) ∷ (v 1 ≐ v 3 ⊕ v 4) ∷ (v 2 ≐ v 5 ⊕ v 3) ∷ []) tt
      (val, (before, (cc (steps i low), tt)))

  pub walked_more : (p k u m i n : ℕ) (y : List E) (x : E) (s : ℕ → E) → 1 ≤ m → i ≡ walk_place p k u (m - 1)
      → n ≡ (i + u) % p → n < length y → x ≡ join (s n) (s k) → Walked none join p k u m y s
      → Walked none join p k u (m + 1) (set y n x) s
  walked_more p k u m i n y x s one is en within here before j l =
      let next = en ∙ next_place p k u m i one is in
      grind (
        arith,
        get_or-set_same {A = E},
        get_or-set_other {A = E},
        before j,
        cases_eq j m,
        cases_eq
            (walk_place p k u j) n,
      )

  pub walked_all : (p k u : ℕ) (y : List E) (s : ℕ → E) → PrimeFacts p → k < p → 0 < u → u < p
      → Walked none join p k u p y s → Divided none join p k y s
  walked_all p k u y s t low h l w i b =
      let pos : 0 < p = omega arith in
      let r = t.reach u ((i + (p - k)) % p) h l (mod-lt (i + (p - k)) pos) in
      let at : walk_place p k u r.0 ≡ i =
      sym (add-mod-mod k (r.0 * u) p) ∙ ap (λ n. (k + n) % p) r.2 ∙ add-mod-mod k (i + (p - k)) p
      ∙ ap (λ n. n % p) (omega arith) ∙ add-mod_right i p ∙ mod-eq_of_lt b in
      sym (ap (λ n. get_or y n none) at) ∙ w r.0 r.1 ∙ ap (λ n. join (s n) (s k)) at

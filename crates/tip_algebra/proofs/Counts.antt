-- Counts of the numbers that pass a test, and the first of them; which columns are lost, where at most three are.
use Rattle.std.proofs.Common.{◌≡◌, ℕ, zero, suc, ◌+◌, ◌<◌, ◌≤◌, Bool, true, false, not, ◌⊎◌, refl, inl, inr, ⊎_elim, arith}
use Rattle.std.proofs.lemmas.Bool.{cases_eq}
use Rattle.tip_element.specs.Counts.{count_below}

-- No number from m on and below n passes the test t.
abbrev pub Clear : (ℕ → Bool) → ℕ → ℕ → Type 0
Clear t m n = (i : ℕ) → m ≤ i → i < n → t i ≡ false

-- The first number from m on and below n that passes the test t.
pub record First (t : ℕ → Bool) (m n : ℕ) : Type 0 where
  pub place : ℕ
  pub from : m ≤ place
  pub below : place < n
  pub holds : t place ≡ true
  pub before : Clear t m place

-- those that pass and those that fail are all
pub count_not : (n : ℕ) (t : ℕ → Bool) → count_below n t + count_below n (λ i. not (t i)) ≡ n
count_not zero t = refl
count_not (suc n) t = grind (arith, count_not n t)

pub count_mono : (m n : ℕ) (t : ℕ → Bool) → m ≤ n → count_below m t ≤ count_below n t
count_mono m zero t h = grind (arith, cases_eq m 0)
count_mono m (suc n) t h = grind (arith, cases_eq m (suc n), count_mono m n t)

-- one that passes counts
pub count_step : (i n : ℕ) (t : ℕ → Bool) → i < n → t i ≡ true → count_below i t + 1 ≤ count_below n t
count_step i n t h e = grind (arith, count_mono (suc i) n t)

pub four : (a b c d n : ℕ) (t : ℕ → Bool) → a < b → b < c → c < d → d < n → t a ≡ true → t b ≡ true → t c ≡ true → t d ≡ true → 4 ≤ count_below n t
four a b c d n t ab bc cd dn ta tb tc td =
    omega (arith, count_step a b t ab ta, count_step b c t bc tb, count_step c d t cd tc, count_step d n t dn td)

-- the search for the first one
pub first_from : (m n : ℕ) (t : ℕ → Bool) → Clear t m n ⊎ First t m n
first_from m zero t = inl (λ i h l. absurd (omega arith))
first_from m (suc n) t =
    ⊎_elim
    (λ (clear : Clear t m n). ⊎_elim
    (λ (here : (m ≤ n) × (t n ≡ true)). inr (record { place = n; from = here.0; below = omega arith; holds = here.1; before = clear }))
    (λ (none : (m ≤ n) × (t n ≡ true) → ⊥). inl (λ i h b. grind (arith, cases_eq i n, clear i)))
    (grind arith))
    (λ (f : First t m n). inr (record { place = f.place; from = f.from; below = omega arith; holds = f.holds; before = f.before }))
    (first_from m n t)

-- Of the columns below p the test t picks at most f and h.
pub record TwoLost (p : ℕ) (t : ℕ → Bool) : Type 0 where
  pub f : ℕ
  pub h : ℕ
  pub fh : f < h
  pub hp : h < p
  pub others : (c : ℕ) → c < p → (c ≡ f → ⊥) → (c ≡ h → ⊥) → t c ≡ false

-- Of the columns up to p the test t picks at most f, g and h, which are below p.
pub record ThreeLost (p : ℕ) (t : ℕ → Bool) : Type 0 where
  pub f : ℕ
  pub g : ℕ
  pub h : ℕ
  pub fg : f < g
  pub gh : g < h
  pub hp : h < p
  pub others : (c : ℕ) → c < p → (c ≡ f → ⊥) → (c ≡ g → ⊥) → (c ≡ h → ⊥) → t c ≡ false
  pub last : t p ≡ false

module _ (p : ℕ) (t : ℕ → Bool) (low : 3 ≤ p) where
  none_lost : Clear t 0 p → TwoLost p t
  none_lost clear = record { f = 0; h = 1; fh = omega arith; hp = omega arith; others = λ c l _ _. clear c (omega arith) l }

  -- one is lost: 0 or 1 stands beside it
  one_lost : (a : First t 0 p) → Clear t (a.place + 1) p → TwoLost p t
  one_lost a clear =
      ⊎_elim
      (λ (e : a.place ≡ 0). record { f = 0; h = 1; fh = omega arith; hp = omega arith; others = λ c l n _. grind (arith, a.before c, clear c) })
      (λ (e : a.place ≡ 0 → ⊥). record { f = 0; h = a.place; fh = omega arith; hp = a.below; others = λ c l _ n. grind (arith, a.before c, clear c) })
      (cases_eq a.place 0)

  two_lost : (a : First t 0 p) (b : First t (a.place + 1) p) → Clear t (b.place + 1) p → TwoLost p t
  two_lost a b clear =
      record {
        f = a.place;
        h = b.place;
        fh = omega (arith, b.from);
        hp = b.below;
        others = λ c l n m. grind (arith, a.before c, b.before c, clear c);
      }

  three_lost : (a : First t 0 p) (b : First t (a.place + 1) p) (d : First t (b.place + 1) p) → Clear t (d.place + 1) (p + 1) → ThreeLost p t
  three_lost a b d clear =
      record {
        f = a.place;
        g = b.place;
        h = d.place;
        fg = omega (arith, b.from);
        gh = omega (arith, d.from);
        hp = d.below;
        others = λ c l n m o. grind (arith, a.before c, b.before c, d.before c, clear c);
        last = clear p (omega (arith, d.below)) (omega arith);
      }

  -- at most three of the p + 1 columns are lost
  pub lost_columns : count_below (p + 1) t ≤ 3 → TwoLost p t ⊎ ThreeLost p t
  lost_columns few =
      ⊎_elim (λ clear. inl (none_lost clear))
      (λ (a : First t 0 p). ⊎_elim (λ clear. inl (one_lost a clear))
      (λ (b : First t (a.place + 1) p). ⊎_elim (λ clear. inl (two_lost a b clear))
      (λ (d : First t (b.place + 1) p). ⊎_elim (λ clear. inr (three_lost a b d clear))
      (λ (e : First t (d.place + 1) (p + 1)).
      let more = four a.place b.place d.place e.place (p + 1) t (omega arith) (omega arith) (omega arith) e.below a.holds b.holds d.holds e.holds in
      absurd (omega arith))
      (first_from (d.place + 1) (p + 1) t))
      (first_from (b.place + 1) p t))
      (first_from (a.place + 1) p t))
      (first_from 0 p t)

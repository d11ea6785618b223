-- Lines and the cells on them.
use Rattle.std.proofs.Common.{◌≡◌, ℕ, ◌+◌, ◌-◌, ◌%◌, ◌<◌, ◌≤◌, Bool, true, false, not, ◌&&◌, ◌||◌, ◌==◌, ltb, sym, refl, ap, ◌∙◌, ⊎_elim, arith}
use Rattle.std.specs.List.{list_all}
use Rattle.std.proofs.lemmas.Bool.{ltb-true, cases_Bool}
use Rattle.std.proofs.lemmas.Bool.Decides.{nat_tests}
use Rattle.tip_code.specs.Primes.{primes, listed}
use Rattle.tip_code.specs.Stripe.{data_cell, line_of, crossing, covers, Lines}
use Rattle.tip_code.specs.declared.chain.Direction.{Direction}
use Rattle.tip_code.specs.declared.chain.Direction.TheVariants.{Row, Diagonal, Antidiagonal}
use Rattle.tip_code.proofs.Cells.{data_facts}
use Rattle.tip_code.proofs.Remainders.{turned}
use Rattle.tip_code.proofs.Tables.{all_below, all_at, implied, prime_at}

-- the line of each data cell has a parity
abbrev has_parity : Direction → ℕ → Bool
has_parity d p = all_below (p - 1) (λ r. all_below p (λ c. not (data_cell p r c) || ltb (line_of p d r c) (p - 1)))

parity_table : (d : Direction) → list_all (has_parity d) primes ≡ true
unfolding data_cell
parity_table Row = refl
parity_table Diagonal = refl
parity_table Antidiagonal = refl

module _ (p : ℕ) (t : listed p ≡ true) where
  meets : (d : Direction) (i r c : ℕ) → i < p → data_cell p r c ≡ true → line_of p d r c ≡ i → crossing p d i c ≡ r
  meets Row i r c h x e = sym e
  meets Diagonal i r c h x e = let f = data_facts p r c x in ap (λ n. (n + (p - c)) % p) (sym e) ∙ turned p r c (p - c) (omega arith) (omega arith)
  meets Antidiagonal i r c h x e = let f = data_facts p r c x in ap (λ n. (n + c) % p) (sym e) ∙ turned p r (p - c) c (omega arith) (omega arith)

  alone : (d : Direction) (i r c : ℕ) → i < p → data_cell p r c ≡ true → crossing p d i c ≡ r → line_of p d r c ≡ i
  alone Row i r c h x e = sym e
  alone Diagonal i r c h x e = let f = data_facts p r c x in ap (λ n. (n + c) % p) (sym e) ∙ turned p i (p - c) c (omega arith) h
  alone Antidiagonal i r c h x e = let f = data_facts p r c x in ap (λ n. (n + (p - c)) % p) (sym e) ∙ turned p i c (p - c) (omega arith) h

  one : (d : Direction) (r c : ℕ) → data_cell p r c ≡ true → line_of p d r c < p - 1
  one d r c x =
      let f = data_facts p r c x in
      let here = all_at p _ (all_at (p - 1) _ (prime_at (has_parity d) (parity_table d) p t) r f.row) c f.column in
      ltb-true _ _ (implied (data_cell p r c) _ here x)

  pub lines : Lines p
  lines = record {
    one = one;
    meets = meets;
    alone = alone;
  }

  -- where a parity does not cover the cell in which its line crosses a column, it covers none there
  pub covered_nowhere : (d : Direction) (i c : ℕ) → i < p → covers p d i (crossing p d i c) c ≡ false → (r : ℕ) → covers p d i r c ≡ false
  covered_nowhere d i c low off r =
      ⊎_elim
      (λ (on : covers p d i r c ≡ true).
      let cell : data_cell p r c ≡ true = grind (arith, nat_tests, on) in
      let line : line_of p d r c ≡ i = grind (arith, nat_tests, on) in
      let here : crossing p d i c ≡ r = meets d i r c low cell line in
      ap (λ q. covers p d i q c) (sym here) ∙ off)
      (λ (no : covers p d i r c ≡ false). no)
      (cases_Bool (covers p d i r c))

  -- nor does it beyond the last line or column that has data
  pub covered_beyond : (d : Direction) (i r c : ℕ) → (i < p - 1 → c < p → ⊥) → covers p d i r c ≡ false
  covered_beyond d i r c past =
      ⊎_elim
      (λ (on : covers p d i r c ≡ true).
      let cell : data_cell p r c ≡ true = grind (arith, nat_tests, on) in
      let line : line_of p d r c ≡ i = grind (arith, nat_tests, on) in
      absurd (past (omega (arith, one d r c cell, line)) (data_facts p r c cell).column))
      (λ (no : covers p d i r c ≡ false). no)
      (cases_Bool (covers p d i r c))

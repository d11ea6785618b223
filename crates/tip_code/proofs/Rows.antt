-- The join of a row's data cells, from that of all its cells below column p.
use Rattle.std.proofs.Common.{◌≡◌, ℕ, zero, suc, ◌+◌, ◌-◌, ◌<◌, true, cond, eqb, sym, refl, ap, ◌∙◌, ⊎_elim, arith}
use Rattle.std.proofs.lemmas.Bool.{cases_eq, cond-true, cond-false}
use Rattle.std.proofs.lemmas.Bool.Decides.{nat_tests}
use Rattle.tip_element.specs.Counts.{join_below}
use Rattle.tip_element.specs.Laws.{Laws}
use Rattle.tip_element.proofs.Joins.{join_same, right}
use Rattle.tip_code.specs.Encoding.{datum, line_join}
use Rattle.tip_code.specs.Primes.{listed}
use Rattle.tip_code.specs.declared.chain.Direction.TheVariants.{Row}
use Rattle.tip_code.proofs.Cells.{data_from, data_not}
use Rattle.tip_code.proofs.Data.{datum_in, datum_out}
use Rattle.tip_code.proofs.Tables.{prime_facts}

module _ {E : Type 0} {none : E} {join : E → E → E} (laws : Laws none join) where
  -- one term left out of a join, by joining it once more
  join_without : (n a : ℕ) (f h : ℕ → E) → a < n → h a ≡ none → ((c : ℕ) → c < n → (c ≡ a → ⊥) → h c ≡ f c)
      → join_below none join n h ≡ join (join_below none join n f) (f a)
  join_without zero a f h low empty same = absurd (omega (arith, low))
  join_without (suc n) a f h low empty same =
      let F = join_below none join n f in
      ⊎_elim
      (λ (e : a ≡ n). ap (join (join_below none join n h)) (ap h (sym e) ∙ empty)
      ∙ right laws (join_below none join n h)
      ∙ join_same none join n h f (λ c k. same c (omega arith) (λ q. omega (arith, q)))
      ∙ sym (ap (join (join F (f n))) (ap f e) ∙ laws.assoc F (f n) (f n)
      ∙ ap (join F) (laws.cancel (f n)) ∙ right laws F))
      (λ (e : a ≡ n → ⊥).
      ap (λ x. join x (h n)) (join_without n a f h (omega arith) empty (λ c k o. same c (omega arith) o))
      ∙ ap (join (join F (f a))) (same n (omega arith) (λ q. e (sym q)))
      ∙ laws.assoc F (f a) (f n) ∙ ap (join F) (laws.comm (f a) (f n)) ∙ sym (laws.assoc F (f n) (f a)))
      (cases_eq a n)

  pub row_is : (p : ℕ) → listed p ≡ true → (X : ℕ → ℕ → E) (i : ℕ) → i < p - 1
      → join (join (join_below none join p (X i)) (X i (i + 1))) (X i (p - 1 - i)) ≡ line_join none join p X Row i
  row_is p t X i h =
      let facts = prime_facts p t in
      let last : p - 1 - i < p = omega (arith, facts.low) in
      let apart : p - 1 - i ≡ i + 1 → ⊥ = λ e. omega (arith, facts.odd, e) in
      sym (join_without p (p - 1 - i) half (datum none p X i) last
      (datum_out none p X i (p - 1 - i) (data_not p i (p - 1 - i) (λ d. d.antidiagonal refl))) rest
      ∙ ap (λ x. join x (half (p - 1 - i))) (join_without p (i + 1) (X i) half (omega arith) (gone (i + 1) refl)
      (λ c k. stays c))
      ∙ ap (join (join (join_below none join p (X i)) (X i (i + 1)))) (stays (p - 1 - i) apart))
    where
      -- the row with the parity of its diagonal left out
      half : ℕ → E
      half c = cond (eqb c (i + 1)) none (X i c)

      gone : (c : ℕ) → c ≡ i + 1 → half c ≡ none
      gone c e = cond-true (eqb c (i + 1)) _ _ (grind (arith, nat_tests, e))

      stays : (c : ℕ) → (c ≡ i + 1 → ⊥) → half c ≡ X i c
      stays c e = cond-false (eqb c (i + 1)) _ _ (grind (arith, nat_tests, e))

      rest : (c : ℕ) → c < p → (c ≡ p - 1 - i → ⊥) → datum none p X i c ≡ half c
      rest c k o =
          ⊎_elim
          (λ (e : c ≡ i + 1). datum_out none p X i c (data_not p i c (λ d. d.diagonal e)) ∙ sym (gone c e))
          (λ (e : c ≡ i + 1 → ⊥).
          datum_in none p X i c (data_from p i c (record { row = h; column = k; diagonal = e; antidiagonal = o }))
          ∙ sym (stays c e))
          (cases_eq c (i + 1))

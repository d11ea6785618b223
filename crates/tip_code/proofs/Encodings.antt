-- The encoding exists and is the only one; which stop an encode gets.
use Rattle.std.proofs.Common.{◌≡◌, ℕ, ◌+◌, ◌-◌, ◌<◌, ◌≤◌, true, false, cond, ◌&&◌, eqb, sym, refl, ap, ◌∙◌, ⊎_elim, arith}
use Rattle.std.proofs.lemmas.Bool.Decides.{nat_tests}
use Rattle.std.proofs.lemmas.Bool.{cond-true, cond-false, cases_Bool, eqb-false, and_cases, false_from_ne_true}
use Rattle.tip_code.specs.Encoding.{line_join, Encodes, encoding, OneEncoding, EncodeStop, values_length, cells_length}
use Rattle.tip_code.specs.Geometry.{cells_in, places_in}
use Rattle.tip_code.specs.Places.{Place, place_number}
use Rattle.tip_code.specs.Primes.{listed}
use Rattle.tip_code.specs.Stops.{First}
use Rattle.tip_code.specs.Stripe.{data_cell, parity_column}
use Rattle.tip_code.specs.declared.chain.Direction.{Direction}
use Rattle.tip_code.specs.declared.chain.Direction.TheVariants.{Row, Diagonal, Antidiagonal}
use Rattle.tip_code.specs.declared.stop.Stop.{Stop}
use Rattle.tip_code.specs.declared.stop.Stop.TheVariants as stop
use Rattle.tip_code.proofs.Cells.{parity_cases}
use Rattle.tip_code.proofs.Filling.{parity_no_data}
use Rattle.tip_code.proofs.Data.{line_same}
use Rattle.tip_code.proofs.Tables.{prime_facts}

module _ {E : Type 0} (none : E) (join : E → E → E) (p : ℕ) (t : listed p ≡ true) where
  -- the direction that a parity cell of the encoding is given
  abbrev chosen : ℕ → ℕ → Direction
  chosen r c = cond (eqb c p) Row (cond (eqb c (r + 1)) Diagonal Antidiagonal)

  chosen_right : (d : Direction) (i : ℕ) → i < p - 1 → chosen i (parity_column p d i) ≡ d
  chosen_right d i h = grind (arith, nat_tests, h, (prime_facts p t).odd)

  encoding_data : (f : ℕ → E) (r c : ℕ) → data_cell p r c ≡ true → encoding none join p f r c ≡ f (place_number p r c)
  unfolding encoding
  encoding_data f r c x = cond-true (data_cell p r c) _ _ x

  encoding_parity : (f : ℕ → E) (d : Direction) (i : ℕ) → i < p - 1 → encoding none join p f i (parity_column p d i) ≡ line_join none join p (encoding none join p f) d i
  unfolding encoding
  encoding_parity f d i h =
      cond-false (data_cell p i (parity_column p d i)) _ _
      (false_from_ne_true _ (λ e. parity_no_data p d i (parity_column p d i) e refl))
      ∙ ap (λ k. line_join none join p (λ s q. f (place_number p s q)) k i) (chosen_right d i h)
      ∙ line_same none join p (λ s q. f (place_number p s q)) (encoding none join p f) d i (λ r c x. sym (encoding_data f r c x))

  exists : (f : ℕ → E) → Encodes none join p f (encoding none join p f)
  exists f = record {
    encoded = record { row = encoding_parity f Row; diagonal = encoding_parity f Diagonal; antidiagonal = encoding_parity f Antidiagonal };
    places = λ n r c at. encoding_data f r c at.holds ∙ ap f at.numbered;
  }

  only : (f : ℕ → E) (X Y : ℕ → ℕ → E) → Encodes none join p f X → Encodes none join p f Y → (r c : ℕ) → r < p - 1 → c ≤ p → X r c ≡ Y r c
  only f X Y x y r c h l =
      ⊎_elim (same_data r c)
      (λ off. ⊎_elim
      (λ e. ap (X r) e ∙ x.encoded.row r h ∙ lines Row r ∙ sym (ap (Y r) e ∙ y.encoded.row r h))
      (⊎_elim
      (λ e. ap (X r) e ∙ x.encoded.diagonal r h ∙ lines Diagonal r ∙ sym (ap (Y r) e ∙ y.encoded.diagonal r h))
      (λ e. ap (X r) e ∙ x.encoded.antidiagonal r h ∙ lines Antidiagonal r ∙ sym (ap (Y r) e ∙ y.encoded.antidiagonal r h)))
      (parity_cases p r c off h l))
      (cases_Bool (data_cell p r c))
    where
      same_data : (r c : ℕ) → data_cell p r c ≡ true → X r c ≡ Y r c
      same_data r c q =
          let at : Place p (place_number p r c) r c = record { holds = q; numbered = refl } in
          x.places _ r c at ∙ sym (y.places _ r c at)

      lines : (d : Direction) (i : ℕ) → line_join none join p X d i ≡ line_join none join p Y d i
      lines d i = line_same none join p X Y d i same_data

  pub one_encoding : OneEncoding none join p
  one_encoding = record { exists = exists; only = only }

module _ (p m n : ℕ) where
  pub encode_first : (eqb m (places_in p) && eqb n (cells_in p)) ≡ false → First (EncodeStop p m n) stop.Length
  encode_first h = record { this = ⊎_elim (λ e. values_length (eqb-false m (places_in p) e)) (λ e. cells_length (eqb-false n (cells_in p) e)) (and_cases _ _ h); lower = λ t f l. grind arith }

  pub encode_none : (eqb m (places_in p) && eqb n (cells_in p)) ≡ true → (t : Stop) → EncodeStop p m n t → ⊥
  encode_none e t f = grind (arith, nat_tests, e, f)

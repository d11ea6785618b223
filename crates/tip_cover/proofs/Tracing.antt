-- A stripe whose places hold their own numbers: each parity holds just the places that it covers.
use Rattle.std.proofs.Common.{◌≡◌, ℕ, zero, suc, ◌-◌, ◌<◌, ◌≤◌, Bool, true, false, eqb, sym, refl, ap, ◌∙◌, ⊎_elim, arith}
use Rattle.std.proofs.lemmas.Bool.{cases_Bool, cases_eq, cases_lt, and_from, and_right, eq-eqb, ne_eqb}
use Rattle.tip_element.specs.Counts.{join_below}
use Rattle.tip_cover.specs.Cover.{Cover}
use Rattle.tip_code.specs.Encoding.{datum, line_join, Encoded, Encodes}
use Rattle.tip_code.specs.Geometry.{places_in}
use Rattle.tip_code.specs.Places.{Place, place_number}
use Rattle.tip_code.specs.Primes.{listed}
use Rattle.tip_code.specs.Stripe.{data_cell, line_of, crossing, covers, parity_column}
use Rattle.tip_element.specs.Traces.{has, members, one_of, no_trace, trace_join, Just, Alike}
use Rattle.tip_code.specs.declared.chain.Direction.{Direction}
use Rattle.tip_code.specs.declared.chain.Direction.TheVariants.{Row, Diagonal, Antidiagonal}
use Rattle.tip_element.specs.declared.trace.Trace.{Trace}
use Rattle.tip_element.proofs.Bits.{count_same, count_short}
use Rattle.tip_code.proofs.Cells.{data_facts}
use Rattle.tip_element.proofs.Sets.{has_join, one_of_same, no_member}
use Rattle.tip_cover.proofs.Covering.{places_traced}
use Rattle.tip_code.proofs.Data.{datum_in, datum_out}
use Rattle.tip_code.proofs.Lines.{lines}
use Rattle.tip_code.proofs.Numbers.{number_below, numbering}

-- whether a number is in a join of many sets, by whether it is in each
has_below : (n : ℕ) (g : ℕ → Trace) (k : ℕ) → has (join_below no_trace trace_join n g) k ≡ join_below false one_of n (λ c. has (g c) k)
has_below zero g k = no_member k
has_below (suc n) g k =
    has_join (join_below no_trace trace_join n g) (g n) k ∙ ap (λ b. one_of b (has (g n) k)) (has_below n g k)

-- a join of tests of which none passes
none_below : (n : ℕ) (g : ℕ → Bool) → ((c : ℕ) → c < n → g c ≡ false) → join_below false one_of n g ≡ false
none_below zero g off = refl
none_below (suc n) g off = rw (none_below n g (λ c h. off c (omega arith)), off n (omega arith))

-- and one of which no other than c may pass
one_below : (n c : ℕ) (g : ℕ → Bool) → c < n → ((m : ℕ) → m < n → (m ≡ c → ⊥) → g m ≡ false) → join_below false one_of n g ≡ g c
one_below zero c g h off = absurd (omega arith)
one_below (suc n) c g h off =
    ⊎_elim
    (λ (e : n ≡ c). rw (none_below n g (λ m l. off m (omega arith) (omega arith))) (ap g e))
    (λ (e : n ≡ c → ⊥). one_of_same _ (g n) (off n (omega arith) e) ∙ one_below n c g (omega arith) (λ m l. off m (omega arith)))
    (cases_eq n c)

-- the parity of a line is the join of the line
parity_join : {E : Type 0} (none : E) (join : E → E → E) (p : ℕ) (X : ℕ → ℕ → E) → Encoded none join p X → (d : Direction) (i : ℕ) → i < p - 1 → X i (parity_column p d i) ≡ line_join none join p X d i
parity_join none join p X is Row = is.row
parity_join none join p X is Diagonal = is.diagonal
parity_join none join p X is Antidiagonal = is.antidiagonal

-- line i of direction d, in the encoding of f, where f n is the set of n alone
module _ (p : ℕ) (t : listed p ≡ true) (d : Direction) (i : ℕ) (h : i < p - 1) (f : ℕ → Trace) (own : (n : ℕ) → n < places_in p → Just n (f n)) (X : ℕ → ℕ → Trace) (is : Encodes no_trace trace_join p f X) where
  -- a data cell holds its own number alone
  held : (r c k : ℕ) → data_cell p r c ≡ true → has (datum no_trace p X r c) k ≡ eqb k (place_number p r c)
  held r c k x =
      rw (datum_in no_trace p X r c x ∙ is.places _ r c (record { holds = x; numbered = refl })) (own _ (number_below p t r c x) k)

  -- and no cell but place k gives k to a join
  unheld : (r c k : ℕ) → (Place p k r c → ⊥) → has (datum no_trace p X r c) k ≡ false
  unheld r c k out =
      ⊎_elim (λ x. held r c k x ∙ ne_eqb k (place_number p r c) (λ e. out (record { holds = x; numbered = sym e })))
      (λ x. rw (datum_out no_trace p X r c x) (no_member k))
      (cases_Bool (data_cell p r c))

  -- in the column of place k, the line gives k where it covers that place
  column_of : (k r c : ℕ) → Place p k r c → has (datum no_trace p X (crossing p d i c) c) k ≡ covers p d i r c
  column_of k r c at =
      ⊎_elim
      (λ (e : line_of p d r c ≡ i).
      rw ((lines p t).meets d i r c (omega arith) at.holds e)
      (held r c k at.holds ∙ eq-eqb k _ (sym at.numbered) ∙ sym (and_from _ _ at.holds (eq-eqb _ i e))))
      (λ (e : line_of p d r c ≡ i → ⊥).
      unheld (crossing p d i c) c k (λ same. e ((lines p t).alone d i r c (omega arith) at.holds ((numbering p t).apart k _ c r c same at).0))
      ∙ sym (and_right (data_cell p r c) _ (ne_eqb _ i e)))
      (cases_eq (line_of p d r c) i)

  -- the parity holds the places that it covers, and no other number
  pub traced : (e : Trace) (m : ℕ) → Cover p d i e m → Alike (X i (parity_column p d i)) e
  traced e m cover k =
      ap (λ s. has s k) (parity_join no_trace trace_join p X is.encoded d i h) ∙ has_below p _ k
      ∙ ⊎_elim
      (λ low.
      let (r, c, at) = (numbering p t).found k low in
      one_below p c _ (data_facts p r c at.holds).column
      (λ b l other. unheld (crossing p d i b) b k (λ same. other ((numbering p t).apart k _ b r c same at).1))
      ∙ column_of k r c at ∙ sym (cover.each k r c at))
      (λ high. none_below p _ (λ c l. unheld (crossing p d i c) c k (λ at. omega (arith, (numbering p t).below k _ c at)))
      ∙ sym (cover.others k high))
      (cases_lt k (places_in p))

-- the places that a parity covers are all that its set counts
pub counted : (p : ℕ) → p ≤ 11 → (d : Direction) (i : ℕ) (t e : Trace) (m : ℕ) → Alike t e → Cover p d i e m → members t ≡ m
unfolding members
counted p h d i t e m same cover =
    count_same 128 (has t) (has e) (λ k _. same k)
    ∙ count_short (places_in p) 128 (has e) (omega (arith, places_traced p h)) cover.others
    ∙ sym cover.count

-- The numbering of places: its facts are computed over the table of primes.
use Rattle.std.proofs.Common.{◌≡◌, ℕ, zero, suc, ◌+◌, ◌-◌, ◌*◌, ◌/◌, ◌%◌, ◌<◌, ◌≤◌, min, max, Bool, true, false, cond, not, ◌&&◌, ◌||◌, eqb, ltb, sym, refl, ap, ◌∙◌, subst, suc-mul, mul_comm, zero-mul, arith}
use Rattle.std.specs.List.{list_all}
use Rattle.std.proofs.lemmas.Nat.{mul-add-lt, same_from_place, div_below, mod_below, div-add-mod'}
use Rattle.std.proofs.lemmas.Bool.Decides.{nat_tests}
use Rattle.std.proofs.lemmas.Bool.{and_parts, ltb-true, eqb-true, ltb-false}
use Rattle.tip_element.specs.Counts.{join_below, count_below}
use Rattle.tip_code.specs.Geometry.{places_in}
use Rattle.tip_code.specs.Places.{Place, place_number, Numbering, PlaceStop, no_place}
use Rattle.tip_code.specs.Primes.{primes, listed}
use Rattle.tip_code.specs.Stops.{First}
use Rattle.tip_code.specs.Stripe.{data_cell}
use Rattle.tip_code.specs.declared.stop.Stop.{Stop}
use Rattle.tip_code.specs.declared.stop.Stop.TheVariants as stop
use Rattle.tip_code.proofs.Cells.{data_facts}
use Rattle.tip_code.proofs.Tables.{all_below, all_at, implied, prime_at, prime_facts}

-- how many data cells of row r stand to the left of column c
abbrev left : ℕ → ℕ → ℕ → ℕ
left p r c = count_below c (data_cell p r)

-- the number that has k others below it once h is left out
abbrev pub skipped : ℕ → ℕ → ℕ
skipped k h = cond (ltb k h) k (k + 1)

-- the column of the data cell with k others to its left
abbrev column_at : ℕ → ℕ → ℕ → ℕ
column_at p r k = skipped (skipped k (min (r + 1) (p - 1 - r))) (max (r + 1) (p - 1 - r))

-- each row has p - 2 places
abbrev full : ℕ → Bool
full p = all_below (p - 1) (λ r. eqb (left p r p) (p - 2))

-- column_at finds the data cell with k to its left
abbrev finds : ℕ → Bool
finds p = all_below (p - 1) (λ r. all_below (p - 2) (λ k. data_cell p r (column_at p r k) && eqb (left p r (column_at p r k)) k))

-- and every data cell is found so
abbrev found_by : ℕ → Bool
found_by p =
    all_below (p - 1) (λ r. all_below p (λ c. not (data_cell p r c)
    || (ltb (left p r c) (p - 2) && eqb (column_at p r (left p r c)) c)))

full_table : list_all full primes ≡ true
unfolding data_cell
full_table = refl

finds_table : list_all finds primes ≡ true
unfolding data_cell
finds_table = refl

found_table : list_all found_by primes ≡ true
unfolding data_cell
found_table = refl

pub skip_is : (k h m : ℕ) → (k < h → m ≡ k) → (h ≤ k → m ≡ k + 1) → m ≡ skipped k h
skip_is k h m low high = grind (arith, nat_tests, low, high)

module _ (p : ℕ) (t : listed p ≡ true) where
  row_full : (r : ℕ) → r < p - 1 → left p r p ≡ p - 2
  row_full r h = eqb-true _ _ (all_at (p - 1) _ (prime_at full full_table p t) r h)

  -- the two skips of the code lead to the data cell
  pub skips_find : (r k m c : ℕ) → r < p - 1 → k < p - 2 → m ≡ skipped k (min (r + 1) (p - 1 - r)) → c ≡ skipped m (max (r + 1) (p - 1 - r)) → (data_cell p r c ≡ true) × (left p r c ≡ k)
  skips_find r k m c h l em ec =
      let is : column_at p r k ≡ c = sym (ec ∙ ap (λ x. skipped x (max (r + 1) (p - 1 - r))) em) in
      let both = and_parts _ _ (all_at (p - 2) _ (all_at (p - 1) _ (prime_at finds finds_table p t) r h) k l) in
      (ap (data_cell p r) (sym is) ∙ both.0, ap (left p r) (sym is) ∙ eqb-true _ _ both.1)

  -- where a data cell is found
  found_at : (r c : ℕ) → data_cell p r c ≡ true → (left p r c < p - 2) × (column_at p r (left p r c) ≡ c)
  found_at r c d =
      let f = data_facts p r c d in
      let both = and_parts _ _ (implied (data_cell p r c) _ (all_at p _ (all_at (p - 1) _ (prime_at found_by found_table p t) r f.row) c f.column) d) in
      (ltb-true _ _ both.0, eqb-true _ _ both.1)

  rows_above : (r : ℕ) → r ≤ p - 1 → join_below 0 ◌+◌ r (λ i. left p i p) ≡ r * (p - 2)
  rows_above zero h = sym (zero-mul (p - 2))
  rows_above (suc r) h =
      ap (λ x. x + left p r p) (rows_above r (omega arith)) ∙ ap (λ x. r * (p - 2) + x) (row_full r (omega arith)) ∙ sym (suc-mul r (p - 2))

  -- the number of a place, by its row and what is to its left
  pub number_is : (r c : ℕ) → r < p - 1 → place_number p r c ≡ r * (p - 2) + left p r c
  unfolding place_number
  number_is r c h = ap (λ x. x + left p r c) (rows_above r (omega arith))

  pub number_below : (r c : ℕ) → data_cell p r c ≡ true → place_number p r c < places_in p
  number_below r c d =
      let f = data_facts p r c d in
      let q = mul-add-lt r (p - 2) (left p r c) (p - 1) f.row (found_at r c d).0 in
      omega (arith, number_is r c f.row, q, mul_comm (p - 1) (p - 2))

  pub number_apart : (r c s d : ℕ) → data_cell p r c ≡ true → data_cell p s d ≡ true → place_number p r c ≡ place_number p s d → (r ≡ s) × (c ≡ d)
  number_apart r c s d x y e =
      let f = data_facts p r c x in
      let g = data_facts p s d y in
      let u = found_at r c x in
      let v = found_at s d y in
      let same : r * (p - 2) + left p r c ≡ s * (p - 2) + left p s d = sym (number_is r c f.row) ∙ e ∙ number_is s d g.row in
      let both = same_from_place r (left p r c) s (left p s d) (p - 2) u.0 v.0 same in
      (both.0, sym u.1 ∙ ap (λ k. column_at p r k) both.1 ∙ ap (λ q. column_at p q (left p s d)) both.0 ∙ v.1)

  -- a row and a number of data cells to the left, from a place
  pub place_row : (n : ℕ) → n < places_in p → n / (p - 2) < p - 1
  place_row n h = div_below n (p - 2) (p - 1) (omega (arith, (prime_facts p t).low)) h

  pub place_left : (n : ℕ) → n % (p - 2) < p - 2
  place_left n = mod_below n (p - 2) (omega (arith, (prime_facts p t).low))

  pub place_is : (n c : ℕ) → n < places_in p → (data_cell p (n / (p - 2)) c ≡ true) × (left p (n / (p - 2)) c ≡ n % (p - 2)) → Place p n (n / (p - 2)) c
  place_is n c h q = record {
    holds = q.0;
    numbered = number_is (n / (p - 2)) c (place_row n h) ∙ ap (λ k. n / (p - 2) * (p - 2) + k) q.1 ∙ div-add-mod' n (p - 2);
  }

  pub numbering : Numbering p
  numbering = record {
    below = λ n r c h. subst (λ (m : ℕ). m < places_in p) h.numbered (number_below r c h.holds);
    found = λ n h.
        let r = n / (p - 2) in
        let c = column_at p r (n % (p - 2)) in
        (r, c, place_is n c h (skips_find r (n % (p - 2)) _ c (place_row n h) (place_left n) refl refl));
    apart = λ n r c s d h k. number_apart r c s d h.holds k.holds (h.numbered ∙ sym k.numbered);
  }

-- which stop a place gets
module _ (p n : ℕ) where
  pub place_first : ltb n (places_in p) ≡ false → First (PlaceStop p n) stop.Place
  place_first h = record { this = no_place (ltb-false n (places_in p) h); lower = λ t f l. grind arith }

  pub place_none : ltb n (places_in p) ≡ true → (t : Stop) → PlaceStop p n t → ⊥
  place_none h t f = grind (arith, nat_tests, h, f)

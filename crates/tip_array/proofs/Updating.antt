-- A change joined into several cells of a stripe, one after another.
use Rattle.std.proofs.Common.{◌≡◌, ◌≢◌, ℕ, ◌-◌, ◌<◌, ◌≤◌, Bool, true, false, cond, ◌&&◌, ◌||◌, ◌==◌, List, length, Some, Result, Ok, Err, slice_get, slice_set, slice_index_or, sym, refl, ap, subst, ◌∙◌, ⊎_elim, arith}
use Rattle.std.proofs.lemmas.Bool.{cases_eq}
use Rattle.std.proofs.lemmas.Bool.Decides.{nat_tests}
use Rattle.std.proofs.lemmas.List.{get_or-set_same, get_or-set_other, length-set}
use Rattle.std.proofs.lemmas.Option.{get_or_from_slice_get}
use Rattle.tip_element.specs.Laws.{Laws}
use Rattle.tip_code.specs.Places.{Place}
use Rattle.tip_code.specs.Primes.{listed}
use Rattle.tip_code.specs.Stops.{number}
use Rattle.tip_code.specs.Stripe.{data_cell, line_of, parity_column, parity_cell, Concerned}
use Rattle.tip_code.specs.declared.chain.Cell.{Cell}
use Rattle.tip_code.specs.declared.chain.Direction.{Direction}
use Rattle.tip_code.specs.declared.chain.Direction.TheVariants.{Row, Diagonal, Antidiagonal}
use Rattle.tip_code.specs.declared.stop.Stop.{Stop}
use Rattle.tip_code.proofs.Cells.{data_facts}
use Rattle.tip_code.proofs.Lines.{lines}
use Rattle.tip_code.proofs.Tables.{prime_facts}
use Rattle.tip_shelf.specs.Meaning.{Strip, held, blank, absent, Meaning}
use Rattle.tip_shelf.specs.Calls.{Kept, Fares, stays as stays_same, drops as drops_out, Same, is_held, is_out, Turns, got, put as put_in, InRange, Reads, Got, Put}
use Rattle.tip_shelf.specs.declared.shelf.Out.{Out}
use Rattle.tip_shelf.proofs.Strips.{kept-then, fares-then}
use Rattle.tip_shelf.proofs.Faring.{got_fared, got_out, fares_out}
use Rattle.tip_array.specs.Stripes.{element, is_parity_of, concerned}
use Rattle.tip_array.specs.Steps.{Joins, joins, stays, drops, Updated}
use Rattle.tip_array.specs.Steps.{WriteStep}
use Rattle.tip_array.specs.Runs.{Passes}
use Rattle.tip_array.specs.Reading.{CellHolds, Wrote}
use Rattle.tip_code.proofs.Numbers.{numbering}
use Rattle.tip_array.proofs.Finding.{read_step}
use Rattle.tip_array.proofs.Stepping.{held_is, not_held}

module _ {E : Type 0} where
  twice : (join : E → E → E) (b c : Bool) (y x : E) → (b ≡ true → c ≡ true → ⊥) → cond c (join (cond b (join y x) y) x) (cond b (join y x) y) ≡ cond (b || c) (join y x) y
  twice join true true y x apart = absurd (apart refl refl)
  twice join true false y x apart = refl
  twice join false c y x apart = refl

  put_rows : (none : E) (join : E → E → E) (r c : ℕ) (es : List E) (e x : E) → r < length es → slice_get es r ≡ Some e → (s : ℕ) → slice_index_or (slice_set es r (join e x)) s none ≡ cond (s == r && c == c) (join (slice_index_or es s none) x) (slice_index_or es s none)
  put_rows none join r c es e x low item s =
      let old : slice_index_or es r none ≡ e = get_or_from_slice_get es r e none item in
      ⊎_elim
      (λ (same : s ≡ r).
      let on : (s == r && c == c) ≡ true = grind (arith, nat_tests, same) in
      rw (on, same) (get_or-set_same es r (join e x) none low ∙ ap (λ y. join y x) (sym old)))
      (λ (ne : s ≢ r).
      let off : (s == r && c == c) ≡ false = grind (arith, nat_tests, ne) in
      rw off (get_or-set_other es r s (join e x) none ne))
      (cases_eq s r)

module _ {E : Type 0} {none : E} {join : E → E → E} where
  -- a strip in which nothing is to change
  fares_joins : {changes : ℕ → Bool} {x : E} {steady : Bool} (a b : Strip E) → ((r : ℕ) → changes r ≡ false) → Fares steady a b → Joins none join changes x steady a b
  fares_joins {changes} {x} (held es) b off (stays_same e) =
      joins es es refl e refl (λ r l. let k : changes r ≡ false = off r in rw k refl)
  fares_joins blank b off (stays_same e) = stays refl e
  fares_joins absent b off (stays_same e) = stays refl e
  fares_joins a b off (drops_out f e) = drops f e

  -- a strip that is out has nothing to change
  out_joins : {changes : ℕ → Bool} {x : E} {steady : Bool} (a b : Strip E) → is_out b ≡ true → Fares steady a b → Joins none join changes x steady a b
  out_joins a b out (stays_same e) = stays (ap is_out (sym e) ∙ out) e
  out_joins a b out (drops_out f e) = drops f e

  joins-then : {s t both : ℕ → Bool} {x : E} {steady after : Bool} (a b c : Strip E) → after ≡ steady → ((r : ℕ) → s r ≡ true → t r ≡ true → ⊥) → ((r : ℕ) → both r ≡ (s r || t r)) → Joins none join s x steady a b → Joins none join t x after b c → Joins none join both x steady a c
  joins-then {s} {t} {both} {x} a b c same apart all (joins es fs is to n h) (joins fs' gs is' to' n' k) =
      let e : fs' ≡ fs = held_is b fs' fs is' to in
      joins es gs is to' (n' ∙ ap length e ∙ n) (λ r l.
      k r (omega (arith, ap length e, n, l))
      ∙ ap (λ z. cond (t r) (join (slice_index_or z r none) x) (slice_index_or z r none)) e
      ∙ ap (λ y. cond (t r) (join y x) y) (h r l)
      ∙ twice join (s r) (t r) (slice_index_or es r none) x (apart r)
      ∙ ap (λ q. cond q (join (slice_index_or es r none) x) (slice_index_or es r none)) (sym (all r)))
  joins-then a b c same apart all (joins es fs is to n h) (stays out e) = absurd (held_out b fs to out)
    where
      held_out : (s : Strip E) (es : List E) → s ≡ held es → is_out s ≡ true → ⊥
      held_out s es e o = grind (arith, e, o)
  joins-then a b c same apart all h (drops f e) = drops (sym same ∙ f) e
  joins-then a b c same apart all (stays out e) (joins fs gs is to n k) = absurd (held_out a fs (sym e ∙ is) out)
    where
      held_out : (s : Strip E) (es : List E) → s ≡ held es → is_out s ≡ true → ⊥
      held_out s es e o = grind (arith, e, o)
  joins-then a b c same apart all (stays out e) (stays out' e') = stays out (e' ∙ e)
  joins-then a b c same apart all (drops f e) (joins fs gs is to n k) = absurd (not_held b fs e is)
  joins-then a b c same apart all (drops f e) (stays out e') = drops f (e' ∙ e)

  pub updated-then : {u v w : Meaning E} {i : ℕ} (s t both : ℕ → ℕ → Bool) {x : E} → ((r k : ℕ) → s r k ≡ true → t r k ≡ true → ⊥) → ((r k : ℕ) → both r k ≡ (s r k || t r k)) → Updated none join u v i s x → Updated none join v w i t x → Updated none join u w i both x
  updated-then {u} {v} {w} {i} s t both apart all h k = record {
    kept = kept-then h.kept k.kept;
    stripe = λ c. joins-then (u.strip i c) (v.strip i c) (w.strip i c) h.kept.steady (λ r. apart r c) (λ r. all r c) (h.stripe c) (k.stripe c);
    others = λ j c ne. fares-then h.kept.steady (h.others j c ne) (k.others j c ne);
  }

  module _ {v : Meaning E} {i r c : ℕ} (range : InRange v i c r) where
    -- the strip of the cell is out
    pub update_out : {w : Meaning E} {o : Out} {x : E} → Got {E = E} v w i c r (Err o) → Updated none join v w i (λ s k. s == r && k == c) x
    update_out {w} {o} {x} h =
        let fared = got_fared range h in
        record {
          kept = fared.kept;
          stripe = λ k. ⊎_elim
              (λ (e : k ≡ c). rw e (out_joins (v.strip i c) (w.strip i c) (got_out range h) (fared.strips i c)))
              (λ (ne : k ≢ c). fares_joins (v.strip i k) (w.strip i k) (λ s. grind (arith, nat_tests, ne)) (fared.strips i k))
              (cases_eq k c);
          others = λ j k ne. fared.strips j k;
        }

    put_joins : (steady after : Bool) (a b d : Strip E) (e x : E) (o : Result (Unit {0}) Out) → after ≡ steady → ((es : List E) → a ≡ held es → length es ≡ v.prime - 1) → Turns steady a b (got a) (Ok e) → Reads a r (Ok e) → Turns after b d (put_in r (join e x) b) o → Joins none join (λ s. s == r && c == c) x steady a d
    put_joins steady after (held es) b d e x (Ok _) same sized t item k =
        let now : d ≡ held (slice_set es r (join e x)) = subst (λ (q : Strip E). Turns {A = Unit {0}} after q d (put_in r (join e x) q) (Ok tt)) t k in
        joins es (slice_set es r (join e x)) refl now (length-set es r (join e x)) (λ s l. put_rows none join r c es e x (omega (arith, range.row, sized es refl)) item s)
    put_joins steady after (held es) b d e x (Err o) same sized t item k =
        let now : (after ≡ false) × (d ≡ absent) = subst (λ (q : Strip E). Turns {A = Unit {0}} after q d (put_in r (join e x) q) (Err o)) t k in
        drops (sym same ∙ now.0) now.1
    put_joins steady after blank b d e x o same sized t item k = absurd t
    put_joins steady after absent b d e x o same sized t item k = absurd t

    pub update_put : {u w : Meaning E} {e x : E} {o : Result (Unit {0}) Out} → ((es : List E) → v.strip i c ≡ held es → length es ≡ v.prime - 1) → Got v u i c r (Ok e) → Put u w i c r (join e x) o → Updated none join v w i (λ s k. s == r && k == c) x
    update_put {u} {w} {e} {x} {o} sized h k =
        let fared = got_fared range h in
        let there : InRange u i c r = record { within = record { stripe = omega (arith, range.within.stripe, fared.kept.stripes); column = omega (arith, range.within.column, fared.kept.prime) }; row = omega (arith, range.row, fared.kept.prime) } in
        record {
          kept = kept-then fared.kept k.kept;
          stripe = λ q. ⊎_elim
              (λ (same : q ≡ c). rw same (put_joins v.steady u.steady (v.strip i c) (u.strip i c) (w.strip i c) e x o fared.kept.steady sized (h.act.here range) h.reads (k.here there)))
              (λ (ne : q ≢ c). fares_joins (v.strip i q) (w.strip i q) (λ s. grind (arith, nat_tests, ne)) (fares-then fared.kept.steady (fared.strips i q) (k.others i q (λ _ e. ne e))))
              (cases_eq q c);
          others = λ j q ne. fares-then fared.kept.steady (fared.strips j q) (k.others j q (λ e _. ne e));
        }

    -- a cell that is set: that joins in the difference to what it held
    set_rows : Laws none join → (es : List E) (old e : E) → r < length es → old ≡ slice_index_or es r none → (s : ℕ) → slice_index_or (slice_set es r e) s none ≡ cond (s == r && c == c) (join (slice_index_or es s none) (join old e)) (slice_index_or es s none)
    set_rows laws es old e low is s =
        ⊎_elim
        (λ (same : s ≡ r).
        let on : (s == r && c == c) ≡ true = grind (arith, nat_tests, same) in
        let back : join (slice_index_or es r none) (join old e) ≡ e = rw (sym is) (sym (laws.assoc old old e) ∙ ap (λ y. join y e) (laws.cancel old) ∙ laws.neutral e) in
        rw (on, same) (get_or-set_same es r e none low ∙ sym back))
        (λ (ne : s ≢ r).
        let off : (s == r && c == c) ≡ false = grind (arith, nat_tests, ne) in
        rw off (get_or-set_other es r s e none ne))
        (cases_eq s r)

    set_joins : Laws none join → (a d : Strip E) (old e : E) (o : Result (Unit {0}) Out) → ((es : List E) → a ≡ held es → length es ≡ v.prime - 1) → (is_held a ≡ true → old ≡ element none a r) → Turns v.steady a d (put_in r e a) o → Joins none join (λ s. s == r && c == c) (join old e) v.steady a d
    set_joins laws (held es) d old e (Ok _) sized has k =
        joins es (slice_set es r e) refl k (length-set es r e) (λ s l. set_rows laws es old e (omega (arith, range.row, sized es refl)) (has refl) s)
    set_joins laws (held es) d old e (Err o) sized has k = drops k.0 k.1
    set_joins laws blank d old e (Ok _) sized has k = absurd k
    set_joins laws blank d old e (Err o) sized has k = out_joins blank d (fares_out k refl) k
    set_joins laws absent d old e (Ok _) sized has k = absurd k
    set_joins laws absent d old e (Err o) sized has k = out_joins absent d (fares_out k refl) k

    pub update_set : Laws none join → {w : Meaning E} {old e : E} (o : Result (Unit {0}) Out) → ((es : List E) → v.strip i c ≡ held es → length es ≡ v.prime - 1) → Put v w i c r e o → CellHolds none v i r c old → Updated none join v w i (λ s k. s == r && k == c) (join old e)
    update_set laws {w} {old} {e} o sized h has = record {
      kept = h.kept;
      stripe = λ q. ⊎_elim
          (λ (same : q ≡ c). rw same (set_joins laws (v.strip i c) (w.strip i c) old e o sized has (h.here range)))
          (λ (ne : q ≢ c). fares_joins (v.strip i q) (w.strip i q) (λ s. grind (arith, nat_tests, ne)) (h.others i q (λ _ e. ne e)))
          (cases_eq q c);
      others = λ j q ne. h.others j q (λ e _. ne e);
    }

-- the cells that a write concerns, one after another
module _ (p r c : ℕ) where
  abbrev pub own : ℕ → ℕ → Bool
  own s k = s == r && k == c

  abbrev pub with_row : ℕ → ℕ → Bool
  with_row s k = own s k || is_parity_of p r c s k Row

  abbrev pub with_diagonal : ℕ → ℕ → Bool
  with_diagonal s k = with_row s k || is_parity_of p r c s k Diagonal

  module _ (t : listed p ≡ true) (at : data_cell p r c ≡ true) where
    -- each of them is another
    pub row_apart : (s k : ℕ) → own s k ≡ true → is_parity_of p r c s k Row ≡ true → ⊥
    row_apart s k a b = let f = data_facts p r c at in grind (arith, nat_tests, f.column, a, b)

    pub diagonal_apart : (s k : ℕ) → with_row s k ≡ true → is_parity_of p r c s k Diagonal ≡ true → ⊥
    diagonal_apart s k a b = let f = data_facts p r c at in grind (arith, nat_tests, f.column, f.diagonal, (lines p t).one Diagonal r c at, a, b)

    pub antidiagonal_apart : (s k : ℕ) → with_diagonal s k ≡ true → is_parity_of p r c s k Antidiagonal ≡ true → ⊥
    antidiagonal_apart s k a b = let f = data_facts p r c at in grind (arith, nat_tests, f.column, f.antidiagonal, (lines p t).one Antidiagonal r c at, (prime_facts p t).odd, a, b)

  pub all_concerned : (s k : ℕ) → concerned p r c s k ≡ (with_diagonal s k || is_parity_of p r c s k Antidiagonal)
  all_concerned s k = regroup (own s k) (is_parity_of p r c s k Row) (is_parity_of p r c s k Diagonal) (is_parity_of p r c s k Antidiagonal)
    where
      regroup : (x y z u : Bool) → (x || (y || (z || u))) ≡ (((x || y) || z) || u)
      regroup true y z u = refl
      regroup false true z u = refl
      regroup false false true u = refl
      regroup false false false u = refl

-- the parity cell of a direction, as a cell of the stripe
abbrev pub just : Cell → ℕ → ℕ → Bool
just q s k = s == q.row && k == q.column

just_parity : (p r c s k : ℕ) (d : Direction) (q : Cell) → q ≡ parity_cell p d (line_of p d r c) → just q s k ≡ is_parity_of p r c s k d
just_parity p r c s k d q e = rw e (grind (arith, nat_tests))

module _ {E : Type 0} {none : E} {join : E → E → E} where
  pub all_updated : {v a b c w : Meaning E} {i r k : ℕ} {x : E} (row diagonal antidiagonal : Cell) → listed v.prime ≡ true → Concerned v.prime r k row diagonal antidiagonal
      → Updated none join v a i (own v.prime r k) x → Updated none join a b i (just row) x → Updated none join b c i (just diagonal) x → Updated none join c w i (just antidiagonal) x
      → Updated none join v w i (concerned v.prime r k) x
  all_updated {v} {a} {b} {c} {w} {i} {r} {k} {x} row diagonal antidiagonal t h one two three four =
      let p = v.prime in
      let as_row = λ (s q : ℕ). just_parity p r k s q Row row h.by_row in
      let as_diagonal = λ (s q : ℕ). just_parity p r k s q Diagonal diagonal h.by_diagonal in
      let as_antidiagonal = λ (s q : ℕ). just_parity p r k s q Antidiagonal antidiagonal h.by_antidiagonal in
      updated-then (with_diagonal p r k) (just antidiagonal) (concerned p r k)
      (λ s q on is. antidiagonal_apart p r k t h.holds s q on (sym (as_antidiagonal s q) ∙ is))
      (λ s q. all_concerned p r k s q ∙ ap (λ y. with_diagonal p r k s q || y) (sym (as_antidiagonal s q)))
      (updated-then (with_row p r k) (just diagonal) (with_diagonal p r k)
      (λ s q on is. diagonal_apart p r k t h.holds s q on (sym (as_diagonal s q) ∙ is))
      (λ s q. ap (λ y. with_row p r k s q || y) (sym (as_diagonal s q)))
      (updated-then (own p r k) (just row) (with_row p r k)
      (λ s q on is. row_apart p r k t h.holds s q on (sym (as_row s q) ∙ is))
      (λ s q. ap (λ y. own p r k s q || y) (sym (as_row s q)))
      one two)
      three)
      four

module _ {E : Type 0} where
  -- a parity cell is within the stripe
  pub parity_range : {v w : Meaning E} {i : ℕ} (r c : ℕ) (d : Direction) (q : Cell) → listed v.prime ≡ true → Kept v w → i < v.stripes → data_cell v.prime r c ≡ true → q ≡ parity_cell v.prime d (line_of v.prime d r c) → InRange w i q.column q.row
  parity_range {v} {w} {i} r c d q t kept there at e =
      let low = (lines v.prime t).one d r c at in
      let column : parity_column v.prime d (line_of v.prime d r c) ≤ v.prime = parity_low d (line_of v.prime d r c) low in
      record {
        within = record { stripe = omega (arith, kept.stripes, there); column = omega (arith, kept.prime, column, ap (λ (k : Cell). k.column) e) };
        row = omega (arith, kept.prime, low, ap (λ (k : Cell). k.row) e);
      }
    where
      parity_low : (d : Direction) (l : ℕ) → l < v.prime - 1 → parity_column v.prime d l ≤ v.prime
      parity_low Row l h = omega arith
      parity_low Diagonal l h = omega arith
      parity_low Antidiagonal l h = omega arith

module _ {E : Type 0} where
  pub fares_same : {steady : Bool} {a b c : Strip E} → c ≡ b → Fares steady a b → Fares steady a c
  fares_same e (stays_same s) = stays_same (e ∙ s)
  fares_same e (drops_out f g) = drops_out f (e ∙ g)

module _ {E : Type 0} {none : E} {join : E → E → E} where
  joins_same : {changes : ℕ → Bool} {x : E} {steady : Bool} {a b c : Strip E} → c ≡ b → Joins none join changes x steady a b → Joins none join changes x steady a c
  joins_same e (joins es fs is to n h) = joins es fs is (e ∙ to) n h
  joins_same e (stays out s) = stays out (e ∙ s)
  joins_same e (drops f g) = drops f (e ∙ g)

  pub updated_same : {u v w : Meaning E} {i : ℕ} {changes : ℕ → ℕ → Bool} {x : E} → Updated none join u v i changes x → Same v w → Updated none join u w i changes x
  updated_same {u} {v} {w} {i} h same = record {
    kept = kept-then h.kept same.kept;
    stripe = λ k. joins_same (same.strip i k) (h.stripe k);
    others = λ j k ne. fares_same (same.strip j k) (h.others j k ne);
  }

  -- a write as a step
  pub write_step : {v w : Meaning E} {i n r c work : ℕ} {e : E} (o : Result ℕ Stop) → listed v.prime ≡ true → Passes v i n work → Place v.prime n r c → Wrote none join v w i r c e o → WriteStep none join v w i n e work o
  write_step {v} {w} {i} {n} {r} {c} {work} {e} (Ok m) t p at h =
      let step = read_step {none = none} {join = join} {v = v} {w = h.u} {i = i} {n = n} {r = r} {c = c} {work = work} (Ok h.old) t p at h.fared h.done.0 in
      record {
        u = h.u;
        old = h.old;
        fared = h.fared;
        stops = step.stops;
        rests = tt;
        read = step.answer;
        updated = λ s k there.
            let same = (numbering v.prime t).apart n s k r c (subst (λ q. Place q n s k) h.fared.kept.prime there) at in
            rw (same.0, same.1) h.done.1;
        answer = h.done.2;
      }
  write_step {v} {w} {i} {n} {r} {c} {work} {e} (Err s) t p at h =
      let step = read_step {none = none} {join = join} {v = v} {w = h.u} {i = i} {n = n} {r = r} {c = c} {work = work} (Err s) t p at h.fared (h.done.0, h.done.2, h.done.3) in
      record {
        u = h.u;
        old = h.old;
        fared = h.fared;
        stops = step.stops;
        rests = (h.done.1, λ l. absurd (omega (arith, ap number h.done.0)));
        read = tt;
        updated = tt;
        answer = tt;
      }

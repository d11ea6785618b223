-- Chains read cell by cell while strips may drop, and counted at the end.
use Rattle.std.proofs.Common.{◌≡◌, ◌≢◌, ℕ, zero, suc, ◌+◌, ◌-◌, ◌<◌, ◌≤◌, Bool, true, false, not, ◌&&◌, ◌||◌, ◌==◌, cond, Option, Some, None, MatchOption, is_some, Result, Ok, Err, add-one, sym, refl, ap, subst, ◌∙◌, ⊎_elim, arith}
use Rattle.std.proofs.lemmas.Bool.{and_from, both_ways, cases_eq}
use Rattle.std.proofs.lemmas.Bool.Decides.{nat_tests}
use Rattle.tip_element.specs.Counts.{count_below, join_below}
use Rattle.tip_element.specs.Laws.{Exactly}
use Rattle.tip_element.specs.Traces.{has, no_trace}
use Rattle.tip_element.specs.declared.trace.Trace.{Trace}
use Rattle.tip_element.proofs.Joins.{join_same}
use Rattle.tip_element.proofs.Sets.{no_member}
use Rattle.tip_code.specs.Encoding.{datum, line_join}
use Rattle.tip_code.specs.Primes.{listed}
use Rattle.tip_code.specs.Stops.{number, First}
use Rattle.tip_code.specs.Stripe.{data_cell, parity_cell, crossing, line_of, covers, parity_column, chains_in, Numbered}
use Rattle.tip_code.specs.declared.chain.Cell.{Cell}
use Rattle.tip_code.specs.declared.chain.Direction.{Direction}
use Rattle.tip_code.specs.declared.chain.Direction.TheVariants.{Row, Diagonal, Antidiagonal}
use Rattle.tip_code.specs.declared.stop.Stop.{Stop}
use Rattle.tip_code.specs.declared.stop.Stop.TheVariants as stop
use Rattle.tip_code.proofs.Cells.{data_facts}
use Rattle.tip_code.proofs.Data.{datum_same, datum_in, datum_out}
use Rattle.tip_code.proofs.Lines.{lines}
use Rattle.tip_columns.specs.Sets.{in_set}
use Rattle.tip_columns.specs.declared.Columns.{Columns}
use Rattle.tip_shelf.specs.Meaning.{Strip, held, blank, absent, Meaning}
use Rattle.tip_shelf.specs.Calls.{Same, Fares, stays, drops, Fared, is_held, is_out, InRange, Got}
use Rattle.tip_shelf.specs.declared.shelf.Out.{Out}
use Rattle.tip_shelf.proofs.Strips.{same_refl}
use Rattle.tip_shelf.proofs.Faring.{fared_same, fared-then, got_fared, got_out, out_or_held}
use Rattle.tip_array.specs.Stripes.{element, element_at, in_chain, Whole, chain_join_at, Counted}
use Rattle.tip_array.specs.Steps.{Chains, Fails, CheckStop, no_stripe, CheckStep}
use Rattle.tip_array.specs.Checking.{Collected, LineRead, Judged, Marks, Marked, AreOut, ClearOf, ClearOfBelow, Tallied}
use Rattle.tip_array.specs.declared.calls.Checks.{Checks}
use Rattle.tip_array.proofs.Finding.{found_held}
use Rattle.tip_array.proofs.Keeps.{fares_on}

-- THE CELLS OF A CHAIN
module _ (p : ℕ) (d : Direction) (l r c : ℕ) where
  pub covered_in : covers p d l r c ≡ true → in_chain p d l r c ≡ true
  covered_in q = grind (arith, nat_tests, q)

pub parity_in : (p : ℕ) (d : Direction) (l : ℕ) → in_chain p d l l (parity_column p d l) ≡ true
parity_in p d l = grind (arith, nat_tests)

-- where the line crosses a column, the chain has the data cell or none
module _ (p : ℕ) (t : listed p ≡ true) (d : Direction) (l c : ℕ) (low : l < p - 1) where
  pub covered_at : data_cell p (crossing p d l c) c ≡ true → covers p d l (crossing p d l c) c ≡ true
  covered_at q =
      let e : line_of p d (crossing p d l c) c ≡ l = (lines p t).alone d l (crossing p d l c) c (omega arith) q refl in
      grind (arith, nat_tests, q, e)

  pub uncovered_at : covers p d l (crossing p d l c) c ≡ false → data_cell p (crossing p d l c) c ≡ false
  uncovered_at off =
      elim (data_cell p (crossing p d l c) c) as (λ b. (b ≡ true → covers p d l (crossing p d l c) c ≡ true) → b ≡ false) [
        | true ↦ λ on. absurd (grind (arith, off, on refl))
        | false ↦ λ on. refl
      ] covered_at

-- STRIPS THAT ARE STILL HELD
module _ {E : Type 0} {v w : Meaning E} {i : ℕ} {d : Direction} {l : ℕ} (h : Fared v w) (whole : Whole w i d l) where
  on_at : (r c : ℕ) → in_chain v.prime d l r c ≡ true → is_held (w.strip i c) ≡ true
  on_at r c q = whole.held r c (subst (λ p. in_chain p d l r c ≡ true) (sym h.kept.prime) q)

  pub whole_back : Whole v i d l
  whole_back = record { held = λ r c q. fares_on (h.strips i c) (on_at r c q) }

module _ {E : Type 0} (none : E) where
  element_stays : {s : Bool} {a b : Strip E} (r : ℕ) → Fares s a b → is_held b ≡ true → element none b r ≡ element none a r
  element_stays r (stays e) on = ap (λ x. element none x r) e
  element_stays {s} {a} {b} r (drops f e) on = let k : is_held b ≡ false = ap is_held e in absurd (cc)

  module _ {v w : Meaning E} {i : ℕ} {d : Direction} {l : ℕ} (h : Fared v w) (whole : Whole w i d l) where
    cell_stays : (r c : ℕ) → in_chain v.prime d l r c ≡ true → element_at none w i r c ≡ element_at none v i r c
    cell_stays r c q = element_stays r (h.strips i c) (on_at h whole r c q)

    pub line_stays : (join : E → E → E) (n : ℕ) → listed v.prime ≡ true → l < v.prime - 1 → join_below none join n (λ c. datum none v.prime (element_at none v i) (crossing v.prime d l c) c) ≡ join_below none join n (λ c. datum none w.prime (element_at none w i) (crossing w.prime d l c) c)
    line_stays join n t low =
        rw h.kept.prime (join_same none join n _ _ (λ c _. datum_same none v.prime (element_at none v i) (element_at none w i) (crossing v.prime d l c) c
        (λ q. sym (cell_stays (crossing v.prime d l c) c (covered_in v.prime d l (crossing v.prime d l c) c (covered_at v.prime t d l c low q))))))

    pub chain_stays : (join : E → E → E) → listed v.prime ≡ true → l < v.prime - 1 → chain_join_at none join v i d l ≡ chain_join_at none join w i d l
    chain_stays join t low =
        rw h.kept.prime (ap (λ x. join x (line_join none join v.prime (element_at none v i) d l)) (sym (cell_stays l (parity_column v.prime d l) (parity_in v.prime d l)))
        ∙ ap (join (element_at none w i l (parity_column v.prime d l))) (rw h.kept.prime at (line_stays join v.prime t low)))

-- READING A CHAIN
module _ {E : Type 0} (none : E) where
  -- one cell
  pub collected_cell : {v w : Meaning E} {i r c : ℕ} {d : Direction} {l : ℕ} (o : Result E Out) → InRange v i c r → in_chain v.prime d l r c ≡ true → Got v w i c r o → Collected v w i d l (element_at none w i r c) o
  collected_cell {v} {w} {i} {r} {c} {d} {l} (Ok e) range q h = record {
    fared = got_fared range h;
    is = λ whole. (found_held {none = none} {join = λ x y. x} range h).cell (on_at (got_fared range h) whole r c q);
  }
  collected_cell {v} {w} {i} {r} {c} {d} {l} (Err e) range q h = record {
    fared = got_fared range h;
    is = λ whole. out_or_held (w.strip i c) (got_out range h) (on_at (got_fared range h) whole r c q);
  }

  -- the cell of a column, where the chain has one
  pub collected_datum : {v w : Meaning E} {i r c : ℕ} {d : Direction} {l : ℕ} (o : Result E Out) → listed v.prime ≡ true → l < v.prime - 1 → i < v.stripes → covers v.prime d l r c ≡ true → Got v w i c r o → Collected v w i d l (datum none w.prime (element_at none w i) (crossing w.prime d l c) c) o
  collected_datum {v} {w} {i} {r} {c} {d} {l} o t low there q h =
      let at : data_cell v.prime r c ≡ true = grind (arith, nat_tests, q) in
      let line : line_of v.prime d r c ≡ l = grind (arith, nat_tests, q) in
      let is : r ≡ crossing v.prime d l c = sym ((lines v.prime t).meets d l r c (omega arith) at line) in
      let f = data_facts v.prime r c at in
      subst (λ p. Collected v w i d l (datum none p (element_at none w i) (crossing p d l c) c) o) (sym h.act.kept.prime)
      (subst (λ k. Collected v w i d l (datum none v.prime (element_at none w i) k c) o) is
      (subst (λ x. Collected v w i d l x o) (sym (datum_in none v.prime (element_at none w i) r c at)) (collected_cell o (record { within = record { stripe = there; column = omega (arith, f.column) }; row = f.row }) (covered_in v.prime d l r c q) h)))

  pub collected_none : {v : Meaning E} {i : ℕ} (c : ℕ) {d : Direction} {l : ℕ} {e : E} → listed v.prime ≡ true → l < v.prime - 1 → ((r : ℕ) → covers v.prime d l r c ≡ false) → e ≡ none → Collected v v i d l (datum none v.prime (element_at none v i) (crossing v.prime d l c) c) (Ok e)
  collected_none {v} {i} c {d} {l} {e} t low off is =
      record { fared = fared_same (same_refl v); is = λ _. is ∙ sym (datum_out none v.prime (element_at none v i) (crossing v.prime d l c) c (uncovered_at v.prime t d l c low (off (crossing v.prime d l c)))) }

module _ {E : Type 0} {none : E} {join : E → E → E} where
  pub line_start : (v : Meaning E) (i : ℕ) (d : Direction) (l : ℕ) (all : E) → all ≡ none → LineRead none join v v i d l 0 all
  line_start v i d l all is = record { fared = fared_same (same_refl v); is = λ _. is }

  module _ {v u w : Meaning E} {i : ℕ} {d : Direction} {l n : ℕ} {all : E} (old : LineRead none join v u i d l n all) where
    pub line_more : {e x : E} → listed v.prime ≡ true → l < v.prime - 1 → Collected u w i d l (datum none w.prime (element_at none w i) (crossing w.prime d l n) n) (Ok e) → x ≡ join all e → LineRead none join v w i d l (n + 1) x
    line_more {e} {x} t low h is = record {
      fared = fared-then old.fared h.fared;
      is = λ whole.
          let before = old.is (whole_back h.fared whole) ∙ line_stays none h.fared whole join n (rw old.fared.kept.prime t) (omega (arith, low, old.fared.kept.prime)) in
          rw add-one (is ∙ ap (λ y. join y e) before ∙ ap (join (join_below none join n (λ c. datum none w.prime (element_at none w i) (crossing w.prime d l c) c))) (h.is whole));
    }

    -- a strip of the chain was out
    pub line_out : {x y : E} {s t : Out} → Collected u w i d l x (Err s) → Collected v w i d l y (Err t)
    line_out h = record { fared = fared-then old.fared h.fared; is = h.is }

  pub line_end : {v u : Meaning E} {i : ℕ} {d : Direction} {l n : ℕ} {all : E} → n ≡ v.prime → LineRead none join v u i d l n all → Collected v u i d l (line_join none join u.prime (element_at none u i) d l) (Ok all)
  line_end {v} {u} {i} {d} {l} {n} e h = record {
    fared = h.fared;
    is = λ whole. h.is whole ∙ ap (λ k. join_below none join k (λ c. datum none u.prime (element_at none u i) (crossing u.prime d l c) c)) (e ∙ sym h.fared.kept.prime);
  }

-- where the parity cell stands
pub record At (p : ℕ) (d : Direction) (l : ℕ) (q : Cell) : Type 0 where
  pub low : q.column ≤ p
  pub row : q.row ≡ l
  pub column : q.column ≡ parity_column p d l

parity_low : (p : ℕ) (d : Direction) (l : ℕ) → l < p - 1 → parity_column p d l ≤ p
parity_low p Row l h = omega arith
parity_low p Diagonal l h = omega arith
parity_low p Antidiagonal l h = omega arith

pub parity_at : {p m : ℕ} {d : Direction} {l : ℕ} {q : Cell} → m ≡ p → q ≡ parity_cell m d l → l < p - 1 → At p d l q
parity_at {p} {m} {d} {l} {q} e is low =
    let column : q.column ≡ parity_column p d l = ap (λ (k : Cell). k.column) is ∙ ap (λ n. parity_column n d l) e in
    record { low = rw column (parity_low p d l low); row = ap (λ (k : Cell). k.row) is; column = column }

-- the parity and the line
module _ {E : Type 0} {v : Meaning E} {i r c : ℕ} {l : ℕ} where
  parity_range : i < v.stripes → l < v.prime - 1 → c ≤ v.prime → r ≡ l → InRange v i c r
  parity_range there low column row = record { within = record { stripe = there; column = column }; row = omega arith }

chained : (p : ℕ) {r c : ℕ} (d : Direction) {l : ℕ} → r ≡ l → c ≡ parity_column p d l → in_chain p d l r c ≡ true
chained p d {l} row at = rw (row, at) (parity_in p d l)

module _ {E : Type 0} (none : E) (join : E → E → E) {v u : Meaning E} {i r c : ℕ} {d : Direction} {l : ℕ} (there : i < v.stripes) (low : l < v.prime - 1) (column : c ≤ v.prime) (row : r ≡ l) (at : c ≡ parity_column v.prime d l) where
  pub parity_out : {x : E} {s o : Out} → Got {E = E} v u i c r (Err s) → Collected v u i d l x (Err o)
  parity_out h = let k = collected_cell none (Err _) (parity_range there low column row) (chained v.prime d row at) h in record { fared = k.fared; is = k.is }

  module _ {w : Meaning E} {e y : E} (h : Got v u i c r (Ok e)) where
    pub line_then_out : {x : E} {s o : Out} → Collected u w i d l y (Err s) → Collected v w i d l x (Err o)
    line_then_out k = record { fared = fared-then (got_fared (parity_range there low column row) h) k.fared; is = k.is }

    pub chain_read : Collected u w i d l (line_join none join w.prime (element_at none w i) d l) (Ok y) → Collected v w i d l (chain_join_at none join w i d l) (Ok (join e y))
    chain_read k = record {
      fared = fared-then (got_fared (parity_range there low column row) h) k.fared;
      is = λ whole.
          let first = (collected_cell none (Ok e) (parity_range there low column row) (chained v.prime d row at) h).is (whole_back k.fared whole) in
          let stays' : element_at none u i r c ≡ element_at none w i r c = sym (cell_stays none k.fared whole r c (subst (λ p. in_chain p d l r c ≡ true) (sym (got_fared (parity_range there low column row) h).kept.prime) (chained v.prime d row at))) in
          let place : element_at none w i r c ≡ element_at none w i l (parity_column w.prime d l) = rw (row, at, k.fared.kept.prime, h.act.kept.prime) refl in
          ap (λ z. join z y) (first ∙ stays' ∙ place) ∙ ap (join (element_at none w i l (parity_column w.prime d l))) (k.is whole);
    }

module _ {E : Type 0} {none : E} where
  exactly_not : {b : Bool} {x : E} → Exactly b (x ≡ none) → Exactly (not b) (x ≢ none)
  exactly_not {b} {x} h = record {
    sound = λ e is. let k : b ≡ true = h.whole is in grind (arith, k, e);
    whole = λ ne. other b h.sound ne;
  }
    where
      other : (b : Bool) → (b ≡ true → x ≡ none) → (x ≢ none) → not b ≡ true
      other true h ne = absurd (ne (h refl))
      other false h ne = refl

module _ {E : Type 0} {none : E} {join : E → E → E} where
  pub judged_read : {v w : Meaning E} {i : ℕ} {d : Direction} {l : ℕ} {e : E} {b : Bool} → Collected v w i d l (chain_join_at none join w i d l) (Ok e) → Exactly b (e ≡ none) → Judged none join v w i d l (not b)
  judged_read {v} {w} {i} {d} {l} {e} {b} h z = record { fared = h.fared; exact = λ whole. subst (λ x. Exactly (not b) (x ≢ none)) (h.is whole) (exactly_not z) }

  pub judged_out : {v w : Meaning E} {i : ℕ} {d : Direction} {l : ℕ} {x : E} {o : Out} → Collected v w i d l x (Err o) → Judged none join v w i d l false
  judged_out h = record { fared = h.fared; exact = λ whole. absurd (h.is whole) }

-- THE CHAINS THAT FAIL
-- two chains of one number are the same
same_number : (p : ℕ) (d e : Direction) (l k m : ℕ) → Numbered p d l m → Numbered p e k m → (d ≡ e) × (l ≡ k)
same_number p Row Row l k m a b = (refl, omega (arith, a.number, b.number))
same_number p Row Diagonal l k m a b = absurd (omega (arith, a.number, b.number, a.line, b.line))
same_number p Row Antidiagonal l k m a b = absurd (omega (arith, a.number, b.number, a.line, b.line))
same_number p Diagonal Row l k m a b = absurd (omega (arith, a.number, b.number, a.line, b.line))
same_number p Diagonal Diagonal l k m a b = (refl, omega (arith, a.number, b.number))
same_number p Diagonal Antidiagonal l k m a b = absurd (omega (arith, a.number, b.number, a.line, b.line))
same_number p Antidiagonal Row l k m a b = absurd (omega (arith, a.number, b.number, a.line, b.line))
same_number p Antidiagonal Diagonal l k m a b = absurd (omega (arith, a.number, b.number, a.line, b.line))
same_number p Antidiagonal Antidiagonal l k m a b = (refl, omega (arith, a.number, b.number))

module _ {E : Type 0} {none : E} {join : E → E → E} where
  pub marked_none : (v : Meaning E) (i : ℕ) (set : Trace) → set ≡ no_trace → Marked none join v v i 0 set
  marked_none v i set is = record {
    fared = fared_same (same_refl v);
    marks = record { exact = λ m d l low. absurd (omega arith) };
    beyond = λ m _. rw is (no_member m);
  }

  pub marks_stay : {v w : Meaning E} {i n : ℕ} {set : Trace} → listed v.prime ≡ true → Fared v w → Marks none join v i n set → Marks none join w i n set
  marks_stay {v} {w} {i} {n} {set} t h marks = record {
    exact = λ m d l low num whole.
        let num_v : Numbered v.prime d l m = subst (λ p. Numbered p d l m) h.kept.prime num in
        subst (λ x. Exactly (has set m) (x ≢ none)) (chain_stays none h whole join t num_v.line) (marks.exact m d l low num_v (whole_back h whole));
  }

  module _ {v u w : Meaning E} {i n : ℕ} {d : Direction} {l : ℕ} {set : Trace} {b : Bool} (t : listed v.prime ≡ true) (old : Marked none join v u i n set) (num : Numbered v.prime d l n) (h : Judged none join u w i d l b) where
    more : (new : Trace) → ((m : ℕ) → has new m ≡ (cond b (m == n || has set m) (has set m))) → Marked none join v w i (n + 1) new
    more new is = record {
      fared = fared-then old.fared h.fared;
      marks = record {
        exact = λ m e k low at whole.
            ⊎_elim
            (λ (same : m ≡ n).
            let at_n : Numbered v.prime e k n = subst (λ q. Numbered v.prime e k q) same (subst (λ p. Numbered p e k m) (h.fared.kept.prime ∙ old.fared.kept.prime) at) in
            let chain = same_number v.prime e d k l n at_n num in
            let bit : has new m ≡ b = is m ∙ here b m same in
            rw bit (chain_case e k chain.0 chain.1 whole))
            (λ (ne : m ≢ n).
            let bit : has new m ≡ has set m = is m ∙ apart b (has set m) m ne in
            rw bit ((marks_stay (rw old.fared.kept.prime t) h.fared old.marks).exact m e k (omega arith) at whole))
            (cases_eq m n);
      };
      beyond = λ m past. let off = old.beyond m (omega arith) in is m ∙ apart b (has set m) m (omega arith) ∙ off;
    }
      where
        apart : (b x : Bool) (m : ℕ) → m ≢ n → cond b (m == n || x) x ≡ x
        apart true x m ne = grind (arith, nat_tests, ne)
        apart false x m ne = refl

        here : (b : Bool) (m : ℕ) → m ≡ n → cond b (m == n || has set m) (has set m) ≡ b
        here true m e = grind (arith, nat_tests, e)
        here false m e = old.beyond m (omega arith)

        chain_case : (e : Direction) (k : ℕ) → e ≡ d → k ≡ l → Whole w i e k → Exactly b (chain_join_at none join w i e k ≢ none)
        chain_case e k p q whole = rw (p, q) (h.exact (subst (λ y. Whole w i d y) q (subst (λ x. Whole w i x k) p whole)))

    pub marked_more : {new r : Trace} → b ≡ true → new ≡ r → ((m : ℕ) → has r m ≡ (m == n || has set m)) → Marked none join v w i (n + 1) new
    marked_more {new} {r} on is with_it = more new (λ m. rw (is, on) (with_it m))

    pub marked_skip : {new : Trace} → b ≡ false → new ≡ set → Marked none join v w i (n + 1) new
    marked_skip {new} off is = more new (λ m. rw (is, off) refl)

-- COUNTING
module _ {P : ℕ → Type 0} where
  pub counted_none : Counted 0 P 0
  counted_none = record { test = λ m. false; exact = λ m low. absurd (omega arith); count = refl }

  counted : {n k : ℕ} (b : Bool) → Counted n P k → Exactly b (P n) → (j : ℕ) → j ≡ cond b (k + 1) k → Counted (n + 1) P j
  counted {n} {k} b h e j is = record {
    test = test;
    exact = λ m low. ⊎_elim (λ (same : m ≡ n). rw same (rw (at n refl) e)) (λ (ne : m ≢ n). rw (off m ne) (h.exact m (omega arith))) (cases_eq m n);
    count = rw (add-one, at n refl) (is ∙ ap (λ q. cond b (q + 1) q) (h.count ∙ below n (λ m low. off m (omega arith))) ∙ last b (count_below n test));
  }
    where
      test : ℕ → Bool
      test m = cond (m == n) b (h.test m)

      at : (m : ℕ) → m ≡ n → test m ≡ b
      at m e = grind (arith, nat_tests, e)

      off : (m : ℕ) → m ≢ n → test m ≡ h.test m
      off m ne = grind (arith, nat_tests, ne)

      below : (q : ℕ) → ((m : ℕ) → m < q → test m ≡ h.test m) → count_below q h.test ≡ count_below q test
      below zero e = refl
      below (suc q) e = rw (e q (omega arith)) (ap (λ x. cond (h.test q) (suc x) x) (below q (λ m low. e m (omega arith))))

      last : (b : Bool) (x : ℕ) → cond b (x + 1) x ≡ cond b (suc x) x
      last true x = add-one x
      last false x = refl

-- the statement fixes the number: two tests that are exact agree
same_test : (a b : Bool) {P : Type 0} → Exactly a P → Exactly b P → a ≡ b
same_test true b h k = sym (k.whole (h.sound refl))
same_test false true h k = h.whole (k.sound refl)
same_test false false h k = refl

pub counted_one : (n : ℕ) (P : ℕ → Type 0) (k j : ℕ) → Counted n P k → Counted n P j → k ≡ j
counted_one n P k j h g = h.count ∙ agree n (λ m low. same_test (h.test m) (g.test m) (h.exact m low) (g.exact m low)) ∙ sym g.count
  where
    agree : (q : ℕ) → ((m : ℕ) → m < q → h.test m ≡ g.test m) → count_below q h.test ≡ count_below q g.test
    agree zero e = refl
    agree (suc q) e = rw (e q (omega arith)) (ap (λ x. cond (g.test q) (suc x) x) (agree q (λ m low. e m (omega arith))))

module _ {E : Type 0} where
  held_or_out : (s : Strip E) → is_held s ≡ not (is_out s)
  held_or_out (held es) = refl
  held_or_out blank = refl
  held_or_out absent = refl

pub chain_low : (p : ℕ) (d : Direction) (l r c : ℕ) → l < p - 1 → in_chain p d l r c ≡ true → c ≤ p
chain_low p d l r c low q = ⊎_elim (λ (e : c ≡ parity_column p d l). rw e (parity_low p d l low)) (λ (ne : c ≢ parity_column p d l). let at : data_cell p r c ≡ true = grind (arith, nat_tests, q, ne) in let f = data_facts p r c at in omega (arith, f.column)) (cases_eq c (parity_column p d l))

pub chain_only : {p n : ℕ} {d : Direction} {l : ℕ} (P : Direction → ℕ → Type 0) {b : Bool} → Numbered p d l n → Exactly b (P d l) → Exactly b ((e : Direction) (k : ℕ) → Numbered p e k n → P e k)
chain_only {p} {n} {d} {l} P {b} num h = record {
  sound = λ on e k at. let same = same_number p e d k l n at num in subst (λ x. P x k) (sym same.0) (subst (P d) (sym same.1) (h.sound on));
  whole = λ all. h.whole (all d l num);
}

module _ {E : Type 0} {w : Meaning E} {i : ℕ} {d : Direction} {l : ℕ} (low : l < w.prime - 1) where
  -- a chain lies wholly in held strips where it is clear of those that are out
  pub clear_whole : {out : Columns} {b : Bool} → AreOut w i out → Exactly b (ClearOf w.prime d l out) → Exactly b (Whole w i d l)
  clear_whole {out} {b} are h = record {
    sound = λ on. record {
      held = λ r c q.
          let clear = (h.sound on).none r c q in
          let here = are.columns c in
          let column = chain_low w.prime d l r c low q in
          held_or_out (w.strip i c) ∙ grind (arith, nat_tests, clear, here, column);
    };
    whole = λ whole. h.whole record {
      none = λ r c q.
          let on = whole.held r c q in
          let here = are.columns c in
          let which = held_or_out (w.strip i c) in
          grind (arith, nat_tests, on, here, which);
    };
  }

pub none_there : (p : ℕ) (d : Direction) (l c : ℕ) (o : Option Cell) → is_some o ≡ false → MatchOption o ((r : ℕ) → covers p d l r c ≡ false) (λ q. (q.column ≡ c) × (covers p d l q.row c ≡ true)) → (r : ℕ) → covers p d l r c ≡ false
none_there p d l c None e h = h
none_there p d l c (Some q) e h = absurd (cc)

-- whether a chain is clear of a set
module _ {p : ℕ} {d : Direction} {l : ℕ} {set : Columns} where
  pub parity_met : {q : Cell} → q ≡ parity_cell p d l → in_set set q.column ≡ true → Exactly false (ClearOf p d l set)
  parity_met {q} is on = record {
    sound = λ e. absurd (cc);
    whole = λ h. let off = h.none l (parity_column p d l) (parity_in p d l) in let e : q.column ≡ parity_column p d l = ap (λ (k : Cell). k.column) is in absurd (grind (arith, on, off, e));
  }

  pub clear_start : ClearOfBelow p d l set 0
  clear_start = record { none = λ r c low. absurd (omega arith) }

  module _ {n : ℕ} (old : ClearOfBelow p d l set n) where
    pub clear_free : in_set set n ≡ false → ClearOfBelow p d l set (n + 1)
    clear_free off = record { none = λ r c low q. ⊎_elim (λ (e : c ≡ n). rw e off) (λ (ne : c ≢ n). old.none r c (omega arith) q) (cases_eq c n) }

    pub clear_missed : ((r : ℕ) → covers p d l r n ≡ false) → ClearOfBelow p d l set (n + 1)
    clear_missed off = record {
      none = λ r c low q. ⊎_elim
          (λ (e : c ≡ n). let on : covers p d l r n ≡ true = subst (λ j. covers p d l r j ≡ true) e q in absurd (both_ways _ (off r) on))
          (λ (ne : c ≢ n). old.none r c (omega arith) q)
          (cases_eq c n);
    }

    pub clear_all : {q : Cell} → q ≡ parity_cell p d l → in_set set q.column ≡ false → p ≤ n → Exactly true (ClearOf p d l set)
    clear_all {q} is off past = record {
      sound = λ _. record { none = each };
      whole = λ _. refl;
    }
      where
        each : (r c : ℕ) → in_chain p d l r c ≡ true → in_set set c ≡ false
        each r c on =
            ⊎_elim
            (λ (e : c ≡ parity_column p d l). rw (e ∙ sym (ap (λ (k : Cell). k.column) is)) off)
            (λ (ne : c ≢ parity_column p d l).
            let cover : covers p d l r c ≡ true = grind (arith, nat_tests, on, ne) in
            let at : data_cell p r c ≡ true = grind (arith, nat_tests, cover) in
            let f = data_facts p r c at in
            old.none r c (omega (arith, f.column)) cover)
            (cases_eq c (parity_column p d l))

pub datum_met : (p : ℕ) (d : Direction) (l : ℕ) {set : Columns} (r c : ℕ) → covers p d l r c ≡ true → in_set set c ≡ true → Exactly false (ClearOf p d l set)
datum_met p d l {set} r c q on = record {
  sound = λ e. absurd (cc);
  whole = λ h. let off = h.none r c (covered_in p d l r c q) in absurd (grind (arith, on, off));
}

-- the tally
module _ {E : Type 0} (none : E) (join : E → E → E) (w : Meaning E) (i : ℕ) where
  fails_exactly : (d : Direction) (l : ℕ) (a b : Bool) → Exactly a (Whole w i d l) → (Whole w i d l → Exactly b (chain_join_at none join w i d l ≢ none)) → Exactly (a && b) (Fails none join w i d l)
  fails_exactly d l a b h k = record {
    sound = λ on. let whole = h.sound (grind (arith, on)) in (whole, (k whole).sound (grind (arith, on)));
    whole = λ f. and_from a b (h.whole f.0) ((k f.0).whole f.1);
  }

module _ {E : Type 0} {none : E} {join : E → E → E} {w : Meaning E} {i : ℕ} where
  pub tallied_none : {k : Checks} → k.whole ≡ 0 → k.failing ≡ 0 → Tallied none join w i 0 k
  tallied_none {k} e f = record { whole = rw e counted_none; failing = rw f counted_none; low = omega arith; few = omega arith }

  module _ {n m : ℕ} {d : Direction} {l : ℕ} {out : Columns} {set : Trace} {old : Checks} {a b : Bool} (low : n < m) (num : Numbered w.prime d l n) (are : AreOut w i out) (marks : Marks none join w i m set) (h : Tallied none join w i n old) (clear : Exactly a (ClearOf w.prime d l out)) where
    tally : b ≡ has set n → (k : Checks) → k.whole ≡ cond a (old.whole + 1) old.whole → k.failing ≡ cond (a && b) (old.failing + 1) old.failing → Tallied none join w i (n + 1) k
    tally told k e f =
        let whole = clear_whole num.line are clear in
        record {
          whole = counted a h.whole (chain_only (λ d l. Whole w i d l) num whole) k.whole e;
          failing = counted (a && b) h.failing (chain_only (λ d l. Fails none join w i d l) num (fails_exactly none join w i d l a b whole (λ on. subst (λ x. Exactly x (chain_join_at none join w i d l ≢ none)) (sym told) (marks.exact n d l low num on)))) k.failing f;
          low = rw e (at_most a old.whole n h.low);
          few = rw f (at_most (a && b) old.failing n h.few);
        }
      where
        at_most : (a : Bool) (x n : ℕ) → x ≤ n → cond a (x + 1) x ≤ n + 1
        at_most true x n h = omega arith
        at_most false x n h = omega arith

    pub tally_both : {k : Checks} → b ≡ has set n → a ≡ true → b ≡ true → k ≡ record { whole = old.whole + 1; failing = old.failing + 1 } → Tallied none join w i (n + 1) k
    tally_both {k} told on yes' is = rw is (tally told _ (rw on refl) (rw (on, yes') refl))

    pub tally_whole : {k : Checks} → b ≡ has set n → a ≡ true → b ≡ false → k ≡ record { whole = old.whole + 1; failing = old.failing } → Tallied none join w i (n + 1) k
    tally_whole {k} told on no' is = rw is (tally told _ (rw on refl) (rw (on, no') refl))

  pub tally_skip : {n m : ℕ} {d : Direction} {l : ℕ} {out : Columns} {set : Trace} {old k : Checks} {a : Bool} → n < m → Numbered w.prime d l n → AreOut w i out → Marks none join w i m set → Tallied none join w i n old → Exactly a (ClearOf w.prime d l out) → a ≡ false → k ≡ old → Tallied none join w i (n + 1) k
  tally_skip {n} {m} {d} {l} {out} {set} {old} {k} {a} low num are marks h clear off is = rw is (tally {b = has set n} low num are marks h clear refl old (rw off refl) (rw off refl))

  pub tally_end_whole : {n : ℕ} {k : Checks} → Tallied none join w i n k → n ≡ chains_in w.prime → Chains w (Whole w i) k.whole
  tally_end_whole {n} {k} h e = subst (λ n. Counted n (λ m. (d : Direction) (l : ℕ) → Numbered w.prime d l m → Whole w i d l) k.whole) e h.whole

  pub tally_end_failing : {n : ℕ} {k : Checks} → Tallied none join w i n k → n ≡ chains_in w.prime → Chains w (Fails none join w i) k.failing
  tally_end_failing {n} {k} h e = subst (λ n. Counted n (λ m. (d : Direction) (l : ℕ) → Numbered w.prime d l m → Fails none join w i d l) k.failing) e h.failing

  pub marks_end : {v u : Meaning E} {set : Trace} → listed v.prime ≡ true → Marked none join v u i (chains_in v.prime) set → Same u w → Marks none join w i (chains_in w.prime) set
  marks_end {v} {u} {set} t h same = subst (λ p. Marks none join w i (chains_in p) set) (sym (same.kept.prime ∙ h.fared.kept.prime)) (marks_stay (rw h.fared.kept.prime t) (fared_same same) h.marks)

-- THE CALL
module _ {E : Type 0} (v : Meaning E) (i : ℕ) where
  check_stop : v.stripes ≤ i → First (CheckStop v i) stop.Stripe
  check_stop h = record { this = no_stripe h; lower = lower }
    where
      lower : (t : Stop) → number t < 10 → CheckStop v i t → ⊥
      lower t l (no_stripe k) = omega arith

  pub check_stopped : {none : E} {join : E → E → E} → v.stripes ≤ i → CheckStep none join v v i (Err stop.Stripe)
  check_stopped h = record { fared = fared_same (same_refl v); stops = check_stop h; rests = (same_refl v, λ _. same_refl v); answer = tt }

  pub check_step : {none : E} {join : E → E → E} {w : Meaning E} (k : Checks) → i < v.stripes → Fared v w → Chains w (Whole w i) k.whole → Chains w (Fails none join w i) k.failing → CheckStep none join v w i (Ok k)
  check_step k low fared whole failing = record { fared = fared; stops = none_fits; rests = tt; answer = (whole, failing) }
    where
      none_fits : (t : Stop) → CheckStop v i t → ⊥
      none_fits t (no_stripe h) = omega arith

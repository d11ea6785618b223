-- Finding an element, and the stops of a read.
use Rattle.std.proofs.Common.{◌≡◌, ℕ, ◌+◌, ◌-◌, ◌<◌, ◌≤◌, true, false, List, Some, Result, Ok, Err, slice_get, MatchResult, IfOk, nat_eq, sym, refl, ap, subst, ◌∙◌, ⊎_elim, arith}
use Rattle.std.proofs.lemmas.Bool.{cases_lt, eqb-true}
use Rattle.std.proofs.lemmas.Bool.Decides.{nat_tests}
use Rattle.std.proofs.lemmas.Option.{get_or_from_slice_get}
use Rattle.tip_code.specs.Encoding.{Encoded}
use Rattle.tip_code.specs.Geometry.{cells_in, places_in}
use Rattle.tip_code.specs.Places.{Place, PlaceStop, no_place as past_last}
use Rattle.tip_code.specs.Primes.{listed}
use Rattle.tip_code.specs.Stops.{number, First, Stopped}
use Rattle.tip_code.specs.Stripe.{data_cell, stripe_of}
use Rattle.tip_code.specs.declared.chain.Cell.{Cell}
use Rattle.tip_code.specs.declared.stop.Stop.{Stop}
use Rattle.tip_code.specs.declared.stop.Stop.TheVariants as stop
use Rattle.tip_code.proofs.Cells.{data_facts}
use Rattle.tip_code.proofs.Numbers.{numbering}
use Rattle.tip_code.proofs.Tables.{prime_at}
use Rattle.tip_columns.specs.Sets.{in_set, size}
use Rattle.tip_columns.specs.declared.Columns.{Columns}
use Rattle.tip_solve.specs.Solving.{work_in, room_in, Solved, SolveStop, cells_length, too_short as room_short, no_column, too_many}
use Rattle.tip_shelf.specs.Meaning.{Strip, held, Meaning}
use Rattle.tip_shelf.specs.Calls.{Fared, is_held, is_out, InRange, Got}
use Rattle.tip_shelf.proofs.Faring.{got_element, got_is_held, out_not_held, out_or_held, fares_out, held_unless_out}
use Rattle.tip_shelf.proofs.Strips.{same_refl}
use Rattle.tip_gather.specs.Gathering.{Gathered, GatherStop, cells_length as buffer_length, no_stripe as past_stripe}
use Rattle.tip_gather.specs.Gathering.{outs}
use Rattle.tip_gather.proofs.Picking.{outs_counted}
use Rattle.tip_array.specs.Stripes.{element, HeldAre}
use Rattle.tip_array.specs.Steps.{ReadStop, too_short, no_stripe, no_place, lost, ReadStep}
use Rattle.tip_array.specs.Runs.{Passes}
use Rattle.tip_array.specs.Reading.{ElementFound}

-- what a stripe buffer leaves of a work buffer is the room that solving needs
pub room_left : (p : ℕ) → listed p ≡ true → room_in p + cells_in p ≡ work_in p
room_left p t = eqb-true _ _ (prime_at (λ q. nat_eq (room_in q + cells_in q) (work_in q)) refl p t)

pub few_lost : {q cells room least : ℕ} {s : Columns} → ((t : Stop) → SolveStop q cells room least s t → ⊥) → size s ≤ 3
few_lost {q} {cells} {room} {least} {s} none = ⊎_elim (λ (m : 3 < size s). absurd (none stop.Lost (too_many m))) (λ l. l) (cases_lt 3 (size s))

-- where the buffers fit, of the stops of solving only the last can fit
pub solve_lost : {q cells room : ℕ} {s : Columns} (t : Stop) → cells ≡ cells_in q → room_in q ≤ room → ((c : ℕ) → in_set s c ≡ true → c ≤ q) → SolveStop q cells room (room_in q) s t → (t ≡ stop.Lost) × (3 < size s)
solve_lost t sized enough columns (cells_length n) = absurd (n sized)
solve_lost t sized enough columns (room_short l) = absurd (omega arith)
solve_lost t sized enough columns (no_column n) = absurd (n columns)
solve_lost t sized enough columns (too_many m) = (refl, m)

module _ {E : Type 0} where
  pub in_range : {v : Meaning E} {i r c : ℕ} → i < v.stripes → data_cell v.prime r c ≡ true → InRange v i c r
  in_range {v} {i} {r} {c} there q =
      let f = data_facts v.prime r c q in
      record { within = record { stripe = there; column = omega (arith, f.column) }; row = f.row }

  element_held : (none e : E) (s : Strip E) (r : ℕ) (es : List E) → s ≡ held es → slice_get es r ≡ Some e → e ≡ element none s r
  element_held none e s r es is item = rw is (sym (get_or_from_slice_get es r e none item))

  pub gather_none : {v : Meaning E} {cells i : ℕ} (t : Stop) → cells ≡ cells_in v.prime → i < v.stripes → GatherStop v cells i t → ⊥
  gather_none t sized low (buffer_length e) = e sized
  gather_none t sized low (past_stripe l) = omega arith

module _ {E : Type 0} {none : E} {join : E → E → E} where
  -- an element that the shelf gave
  pub found_held : {v w : Meaning E} {i r c : ℕ} {e : E} → InRange v i c r → Got v w i c r (Ok e) → ElementFound none join w i r c e
  found_held {v} {w} {i} {r} {c} {e} range h =
      let strip = got_is_held v.steady (v.strip i c) (w.strip i c) e (h.act.here range) in
      let item : slice_get strip.0 r ≡ Some e = got_element _ _ _ r e (h.act.here range) h.reads strip.0 strip.1 in
      let is : e ≡ element none (w.strip i c) r = element_held none e (w.strip i c) r strip.0 strip.1 item in
      record {
        cell = λ _. is;
        solved = λ X enc shows.
            let col = shows c strip.0 (record { stripe = omega (arith, range.within.stripe, h.act.kept.stripes); column = omega (arith, range.within.column, h.act.kept.prime) }) strip.1 in
            is ∙ ap (λ s. element none s r) strip.1 ∙ col.rows r (omega (arith, range.row, h.act.kept.prime));
        few = λ o. absurd (out_not_held (w.strip i c) strip.0 o strip.1);
      }

module _ {E : Type 0} {none : E} where
  module _ {v w : Meaning E} {i : ℕ} {s : Columns} {xs : List E} (low : v.prime ≤ 31) (h : Gathered none v w i s xs) where
    -- as many columns are lost as strips are out
    pub lost_outs : size s ≡ outs w i
    lost_outs = outs_counted w i s (rw h.fared.kept.prime low) (rw h.fared.kept.prime h.columns)

    -- an element solved from a gathered stripe
    pub found_solved : {join : E → E → E} {r c q : ℕ} (ys : List E) {e : E} → i < v.stripes → is_out (v.strip i c) ≡ true → data_cell v.prime r c ≡ true → q ≡ v.prime → size s ≤ 3 → e ≡ stripe_of none q ys r c → Solved none join q (in_set s) (stripe_of none q xs) (stripe_of none q ys) → ElementFound none join w i r c e
    found_solved {join} {r} {c} {q} ys {e} there out cells same few is solved =
        let gone = fares_out (h.fared.strips i c) out in
        let at = data_facts v.prime r c cells in
        let at_v : Solved none join v.prime (in_set s) (stripe_of none v.prime xs) (stripe_of none v.prime ys) = subst (λ p. Solved none join p (in_set s) (stripe_of none p xs) (stripe_of none p ys)) same solved in
        record {
          cell = λ on. absurd (out_or_held (w.strip i c) gone on);
          solved = λ X enc shows. is ∙ ap (λ p. stripe_of none p ys r c) same ∙ at_v.whole X (subst (λ p. Encoded none join p X) h.fared.kept.prime enc) (agree X shows) r c at.row (omega (arith, at.column));
          few = λ _. omega (arith, lost_outs, few);
        }
      where
        agree : (X : ℕ → ℕ → E) → HeldAre none w i X → (q k : ℕ) → q < v.prime - 1 → k ≤ v.prime → in_set s k ≡ false → stripe_of none v.prime xs q k ≡ X q k
        agree X shows q k l m off =
            let on : is_out (w.strip i k) ≡ false = sym (grind (arith, nat_tests, h.columns k, m)) ∙ off in
            let strip = held_unless_out (w.strip i k) on in
            let column = shows k strip.0 (record { stripe = omega (arith, there, h.fared.kept.stripes); column = omega (arith, m, h.fared.kept.prime) }) strip.1 in
            h.read k strip.0 strip.1 q l ∙ column.rows q (omega (arith, l, h.fared.kept.prime))

    pub lost_within : (c : ℕ) → in_set s c ≡ true → c ≤ v.prime
    lost_within c on = grind (arith, nat_tests, h.columns c, on)

module _ {E : Type 0} {v : Meaning E} {i n work : ℕ} where
  pub work_stop : work < work_in v.prime → (u : Meaning E) → First (ReadStop v u i n work) stop.Work
  work_stop h u = record { this = too_short h; lower = lower }
    where
      lower : (t : Stop) → number t < 9 → ReadStop v u i n work t → ⊥
      lower t l (too_short k) = omega arith
      lower t l (no_stripe k) = omega arith
      lower t l (no_place k) = omega arith
      lower t l (lost k) = omega arith

  pub stripe_stop : work_in v.prime ≤ work → v.stripes ≤ i → (u : Meaning E) → First (ReadStop v u i n work) stop.Stripe
  stripe_stop enough h u = record { this = no_stripe h; lower = lower }
    where
      lower : (t : Stop) → number t < 10 → ReadStop v u i n work t → ⊥
      lower t l (too_short k) = omega arith
      lower t l (no_stripe k) = omega arith
      lower t l (no_place k) = omega arith
      lower t l (lost k) = omega arith

  pub place_stop : work_in v.prime ≤ work → i < v.stripes → (s : Stop) → PlaceStop v.prime n s → (number s < 13) × ((u : Meaning E) → First (ReadStop v u i n work) s)
  place_stop enough low s (past_last h) = (omega arith, λ u. record { this = no_place h; lower = lower u })
    where
      lower : (u : Meaning E) (t : Stop) → number t < 11 → ReadStop v u i n work t → ⊥
      lower u t l (too_short k) = omega arith
      lower u t l (no_stripe k) = omega arith
      lower u t l (no_place k) = omega arith
      lower u t l (lost k) = omega arith

  pub passes : work_in v.prime ≤ work → i < v.stripes → ((s : Stop) → PlaceStop v.prime n s → ⊥) → Passes v i n work
  passes enough low none = record {
    enough = enough;
    stripe = low;
    place = ⊎_elim (λ (l : n < places_in v.prime). l) (λ (l : places_in v.prime ≤ n). absurd (none stop.Place (past_last l))) (cases_lt n (places_in v.prime));
  }

module _ {E : Type 0} {none : E} (join : E → E → E) {v w : Meaning E} {i : ℕ} {s : Columns} {xs : List E} (low : v.prime ≤ 31) (h : Gathered none v w i s xs) where
  -- what solving a gathered stripe comes to
  pub solved_here : (r c : ℕ) {q : ℕ} (o : Result E Stop) (ys : List E) → i < v.stripes → is_out (v.strip i c) ≡ true → data_cell v.prime r c ≡ true → q ≡ v.prime → MatchResult o (λ e. (size s ≤ 3) × (e ≡ stripe_of none q ys r c) × Solved none join q (in_set s) (stripe_of none q xs) (stripe_of none q ys)) (λ t. (t ≡ stop.Lost) × (3 < size s)) → MatchResult o (λ e. ElementFound none join w i r c e) (λ t. (t ≡ stop.Lost) × (is_out (w.strip i c) ≡ true) × (3 < outs w i))
  solved_here r c (Ok e) ys there out cell same k = found_solved low h ys there out cell same k.0 k.1 k.2
  solved_here r c (Err t) ys there out cell same k = (k.0, fares_out (h.fared.strips i c) out, omega (arith, k.1, lost_outs low h))

module _ {E : Type 0} (v : Meaning E) (i n work : ℕ) where
  -- the place's cell, or its stop
  pub located : {q : ℕ} (o : Result Cell Stop) → work_in v.prime ≤ work → i < v.stripes → q ≡ v.prime → Stopped (PlaceStop q n) o → IfOk o (λ c. Place q n c.row c.column) → MatchResult o (λ c. Passes v i n work × Place v.prime n c.row c.column) (λ s. (number s < 13) × ((u : Meaning E) → First (ReadStop v u i n work) s))
  located (Ok c) enough low e stops at = (passes {v = v} {i = i} {n = n} {work = work} enough low (subst (λ q. (s : Stop) → PlaceStop q n s → ⊥) e stops), subst (λ q. Place q n c.row c.column) e at)
  located (Err s) enough low e stops at = place_stop {v = v} {i = i} {n = n} {work = work} enough low s (subst (λ q. PlaceStop q n s) e stops.this)

module _ {E : Type 0} {none : E} {join : E → E → E} where
  -- a read as a step, from what was found
  pub read_step : {v w : Meaning E} {i n r c work : ℕ} (o : Result E Stop) → listed v.prime ≡ true → Passes v i n work → Place v.prime n r c → Fared v w → MatchResult o (λ e. ElementFound none join w i r c e) (λ s. (s ≡ stop.Lost) × (is_out (w.strip i c) ≡ true) × (3 < outs w i)) → ReadStep none join v w i n work o
  read_step {v} {w} {i} {n} {r} {c} {work} (Ok e) t p at fared h = record {
    fared = fared;
    stops = none_fits;
    rests = tt;
    answer = record {
      cell = λ s k there on. let same = here s k there in rw (same.0, same.1) (h.cell (subst (λ q. is_held (w.strip i q) ≡ true) same.1 on));
      solved = λ X enc shows s k there. let same = here s k there in rw (same.0, same.1) (h.solved X enc shows);
    };
  }
    where
      here : (s k : ℕ) → Place w.prime n s k → (s ≡ r) × (k ≡ c)
      here s k there = (numbering v.prime t).apart n s k r c (subst (λ q. Place q n s k) fared.kept.prime there) at

      none_fits : (t : Stop) → ReadStop v w i n work t → ⊥
      none_fits t (too_short k) = omega (arith, p.enough)
      none_fits t (no_stripe k) = omega (arith, p.stripe)
      none_fits t (no_place k) = omega (arith, p.place)
      none_fits t (lost k) = omega (arith, k.many, h.few (k.out r c (subst (λ q. Place q n r c) (sym fared.kept.prime) at)))
  read_step {v} {w} {i} {n} {r} {c} {work} (Err s) t p at fared h = record {
    fared = fared;
    stops = rw h.0 record {
      this = lost record { stripe = rw fared.kept.stripes p.stripe; place = rw fared.kept.prime p.place; out = λ q k there. rw (here q k there) h.1; many = h.2 };
      lower = lower;
    };
    rests = (same_refl w, λ l. absurd (omega (arith, ap number h.0)));
    answer = tt;
  }
    where
      here : (q k : ℕ) → Place w.prime n q k → k ≡ c
      here q k there = ((numbering v.prime t).apart n q k r c (subst (λ m. Place m n q k) fared.kept.prime there) at).1

      lower : (t : Stop) → number t < 13 → ReadStop v w i n work t → ⊥
      lower t l (too_short k) = omega (arith, p.enough)
      lower t l (no_stripe k) = omega (arith, p.stripe)
      lower t l (no_place k) = omega (arith, p.place)
      lower t l (lost k) = omega arith

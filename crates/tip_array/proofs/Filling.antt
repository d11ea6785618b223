-- Restoring blank strips one after another.
use Rattle.std.proofs.Common.{◌≡◌, ◌≢◌, ℕ, ◌+◌, ◌-◌, ◌*◌, ◌<◌, ◌≤◌, Bool, true, false, ◌&&◌, List, length, Result, Ok, Err, slice_index_or, sym, refl, ap, subst, ◌∙◌, ⊎_elim, arith}
use Rattle.std.proofs.lemmas.Bool.{cases_eq, cases_lt}
use Rattle.std.proofs.lemmas.Bool.Decides.{nat_tests}
use Rattle.tip_element.specs.Counts.{count_below}
use Rattle.tip_code.specs.Stripe.{stripe_of}
use Rattle.tip_columns.specs.Sets.{in_set, size}
use Rattle.tip_columns.specs.declared.Columns.{Columns}
use Rattle.tip_shelf.specs.Meaning.{Strip, held, blank, absent, Meaning, Sound}
use Rattle.tip_shelf.specs.Calls.{Same, is_blank, is_held, is_out, Fares, stays, drops, Turns, restored, Loads, Restored}
use Rattle.tip_shelf.specs.declared.shelf.Out.{Out}
use Rattle.tip_shelf.proofs.Strips.{kept_refl, kept-then, same_refl, fares-then}
use Rattle.tip_code.specs.Encoding.{Encoded}
use Rattle.tip_array.specs.Stripes.{IsColumn, HeldAre}
use Rattle.tip_code.specs.Stops.{number, First}
use Rattle.tip_code.specs.declared.stop.Stop.{Stop}
use Rattle.tip_code.specs.declared.stop.Stop.TheVariants as stop
use Rattle.tip_solve.specs.Solving.{work_in, Solved}
use Rattle.tip_gather.specs.Gathering.{Gathered, Copied, Picked}
use Rattle.tip_shelf.proofs.Faring.{fared-then, fared_same, held_unless_out}
use Rattle.tip_array.proofs.Finding.{lost_outs}
use Rattle.tip_array.specs.Steps.{Refills, refills, drops as refills_drops, Refilled, RebuildStop, too_short, no_stripe, lost as lost_many, RebuildStep}
use Rattle.tip_array.specs.Refilling.{FilledIn, fills, drops as drops_out, FilledInBelow, HasStrips, SolvedThen, Remade}
use Rattle.tip_element.proofs.Bits.{count_same}
use Rattle.tip_array.proofs.Keeps.{fares_blank}
use Rattle.tip_array.proofs.Updating.{fares_same}

pub column_is : {E : Type 0} (none : E) (p n rows : ℕ) (xs es : List E) → rows ≡ p - 1 → length es ≡ rows → ((r : ℕ) → r < rows → slice_index_or es r none ≡ slice_index_or xs (n * rows + r) none) → IsColumn none p (stripe_of none p xs) n es
column_is none p n rows xs es e sized h = record { sized = sized ∙ e; rows = λ r l. h r (omega arith) ∙ ap (λ k. slice_index_or xs (n * k + r) none) e }

module _ {E : Type 0} where
  blank_from : (s : Strip E) → is_blank s ≡ true → s ≡ blank
  blank_from (held es) e = absurd (cc)
  blank_from blank e = refl
  blank_from absent e = absurd (cc)

  module _ {none : E} {X : ℕ → ℕ → E} where
    filled_then : {p c : ℕ} {steady after : Bool} (b d : Strip E) → after ≡ steady → FilledIn none p X c steady b → Fares after b d → FilledIn none p X c steady d
    filled_then b d same (fills es is col) (stays e) = fills es (e ∙ is) col
    filled_then b d same (fills es is col) (drops f e) = drops_out (sym same ∙ f) e
    filled_then b d same (drops_out f is) (stays e) = drops_out f (e ∙ is)
    filled_then b d same (drops_out f is) (drops g e) = drops_out f e

    pub filled_none : (v : Meaning E) (i : ℕ) → FilledInBelow none v v i 0 X
    filled_none v i = record { kept = kept_refl v; blanks = λ c l. absurd (omega arith); others = λ j c _. stays refl }

    module _ {v u : Meaning E} {i n : ℕ} (old : FilledInBelow none v u i n X) where
      here_fared : Fares v.steady (v.strip i n) (u.strip i n)
      here_fared = old.others i n (λ _ l. absurd (omega arith))

      -- a strip that is not blank now
      pub filled_skip : {w : Meaning E} {b : Bool} → Same u w → b ≡ is_blank (u.strip i n) → b ≡ false → FilledInBelow none v w i (n + 1) X
      filled_skip {w} {b} same told off = record {
        kept = kept-then old.kept same.kept;
        blanks = λ c l is. ⊎_elim
            (λ (e : c ≡ n). rw e (gone (v.strip i n) (u.strip i n) (w.strip i n) here_fared (same.strip i n) (subst (λ k. v.strip i k ≡ blank) e is) (sym told ∙ off)))
            (λ (ne : c ≢ n). filled_then (u.strip i c) (w.strip i c) old.kept.steady (old.blanks c (omega arith) is) (stays (same.strip i c)))
            (cases_eq c n);
        others = λ j c ne. fares_same (same.strip j c) (old.others j c (λ e l. ne e (omega arith)));
      }
        where
          gone : (a b d : Strip E) → Fares v.steady a b → d ≡ b → a ≡ blank → is_blank b ≡ false → FilledIn none v.prime X n v.steady d
          gone a b d (stays e) same is out = let now : b ≡ blank = e ∙ is in absurd (grind (arith, now, out))
          gone a b d (drops f e) same is out = drops_out f (same ∙ e)

      -- a strip that is restored
      pub filled_more : {t w : Meaning E} {b : Bool} {es : List E} {o : Result (Unit {0}) Out} → Same u t → b ≡ is_blank (u.strip i n) → b ≡ true → Loads t i n es → IsColumn none v.prime X n es → Restored t w i n es o → FilledInBelow none v w i (n + 1) X
      filled_more {t} {w} {b} {es} {o} same told on range col h =
          let now : u.strip i n ≡ blank = blank_from (u.strip i n) (sym told ∙ on) in
          let steady : t.steady ≡ v.steady = same.kept.steady ∙ old.kept.steady in
          record {
            kept = kept-then old.kept (kept-then same.kept h.kept);
            blanks = λ c l is. ⊎_elim
                (λ (e : c ≡ n). rw e (filled (t.strip i n) (w.strip i n) o (same.strip i n ∙ now) steady (h.here range)))
                (λ (ne : c ≢ n). filled_then (u.strip i c) (w.strip i c) old.kept.steady (old.blanks c (omega arith) is) (fares-then same.kept.steady (stays (same.strip i c)) (h.others i c (λ _ e. ne e))))
                (cases_eq c n);
            others = λ j c ne. ⊎_elim
                (λ (e : j ≡ i). ⊎_elim
                (λ (f : c ≡ n). absurd (ne e (omega arith) (subst (λ k. v.strip i k ≡ blank) (sym f) (fares_blank here_fared now))))
                (λ (f : c ≢ n). fares-then steady (other j c ne) (h.others j c (λ _ k. f k))) (cases_eq c n))
                (λ (e : j ≢ i). fares-then steady (other j c ne) (h.others j c (λ k _. e k))) (cases_eq j i);
          }
        where
          other : (j c : ℕ) → (j ≡ i → c < n + 1 → v.strip i c ≢ blank) → Fares v.steady (v.strip j c) (t.strip j c)
          other j c ne = fares_same (same.strip j c) (old.others j c (λ e l. ne e (omega arith)))

          filled : (a d : Strip E) (o : Result (Unit {0}) Out) → a ≡ blank → t.steady ≡ v.steady → Turns t.steady a d (restored es a) o → FilledIn none v.prime X n v.steady d
          filled a d (Ok _) is s k = fills es (subst (λ (q : Strip E). Turns {A = Unit {0}} t.steady q d (restored es q) (Ok tt)) is k) col
          filled a d (Err e) is s k =
              let both : (t.steady ≡ false) × (d ≡ absent) = subst (λ (q : Strip E). Turns {A = Unit {0}} t.steady q d (restored es q) (Err e)) is k in
              drops_out (sym s ∙ both.0) both.1

    -- where all columns are filled from a stripe buffer
    pub refilled_all : {join : E → E → E} {v u w : Meaning E} {i : ℕ} → Sound v → ((Z : ℕ → ℕ → E) → Encoded none join v.prime Z → HeldAre none v i Z → (r c : ℕ) → r < v.prime - 1 → c ≤ v.prime → X r c ≡ Z r c) → FilledInBelow none v u i (v.prime + 1) X → Same u w → Refilled none join v w i
    refilled_all {join} {v} {u} {w} {i} sound solved h same = record {
      kept = kept-then h.kept same.kept;
      blanks = λ c is. refill c (inside c is) (w.strip i c) (filled_then (u.strip i c) (w.strip i c) h.kept.steady (h.blanks c (inside c is) is) (stays (same.strip i c)));
      others = λ j c ne. fares_same (same.strip j c) (h.others j c (λ e l. ne e));
    }
      where
        inside : (c : ℕ) → v.strip i c ≡ blank → c < v.prime + 1
        inside c is =
            ⊎_elim (λ (l : c < v.prime + 1). l)
            (λ (past : v.prime + 1 ≤ c). let gone = sound.outside i c (λ within. omega (arith, within.column, past)) in absurd (grind (arith, gone, is)))
            (cases_lt c (v.prime + 1))

        refill : (c : ℕ) → c < v.prime + 1 → (after : Strip E) → FilledIn none v.prime X c v.steady after → Refills none join v i c after
        refill c l after (fills es is col) = refills es is col.sized (λ Z enc shows. record { sized = col.sized; rows = λ r k. col.rows r k ∙ solved Z enc shows r c k (omega arith) })
        refill c l after (drops_out f e) = refills_drops f e

module _ {E : Type 0} {none : E} {join : E → E → E} {v : Meaning E} {i : ℕ} {lost set : Columns} {xs : List E} where
  pub solved_fails : (o : Result ℕ Stop) (t : Stop) → o ≡ Err t → (t ≡ stop.Lost) × (3 < size lost) → SolvedThen none join v v i lost set xs o
  solved_fails (Ok m) t e h = absurd (cc)
  solved_fails (Err s) t e h = let same : s ≡ t = cc in record { done = (same ∙ h.0, h.1, same_refl v) }

  pub solved_done : {u w : Meaning E} (m : ℕ) (ys : List E) → Sound v → size lost ≤ 3 → Solved none join v.prime (in_set lost) (stripe_of none v.prime xs) (stripe_of none v.prime ys) → FilledInBelow none v u i (v.prime + 1) (stripe_of none v.prime ys) → Same u w → m ≡ count_below (u.prime + 1) (λ c. in_set set c && is_held (u.strip i c)) → i < v.stripes → SolvedThen none join v w i lost set xs (Ok m)
  solved_done {u} {w} m ys sound few solved filled same is there = record {
    done = (few, (λ has. refilled_all sound (λ Z enc shows. solved.whole Z enc (agree has Z shows)) filled same), is ∙ counts);
  }
    where
      counts : count_below (u.prime + 1) (λ c. in_set set c && is_held (u.strip i c)) ≡ count_below (v.prime + 1) (λ c. in_set set c && is_held (w.strip i c))
      counts =
          ap (λ p. count_below (p + 1) (λ c. in_set set c && is_held (u.strip i c))) filled.kept.prime
          ∙ count_same (v.prime + 1) (λ c. in_set set c && is_held (u.strip i c)) (λ c. in_set set c && is_held (w.strip i c)) (λ c _. ap (λ s. in_set set c && is_held s) (sym (same.strip i c)))

      agree : HasStrips none v i lost xs → (Z : ℕ → ℕ → E) → HeldAre none v i Z → (r c : ℕ) → r < v.prime - 1 → c ≤ v.prime → in_set lost c ≡ false → stripe_of none v.prime xs r c ≡ Z r c
      agree has Z shows r c l k off =
          let strip = held_unless_out (v.strip i c) (sym (has.columns c k) ∙ off) in
          let column = shows c strip.0 (record { stripe = there; column = k }) strip.1 in
          has.read c strip.0 strip.1 r l ∙ column.rows r l

module _ {E : Type 0} {none : E} {join : E → E → E} {v t u w : Meaning E} {i : ℕ} {lost set : Columns} {xs : List E} where
  -- a rebuild from what was gathered
  pub remade : (o : Result ℕ Stop) → t.prime ≤ 31 → Picked is_blank v t i (v.prime + 1) set → Gathered none t u i lost xs → SolvedThen none join u w i lost set xs o → Remade none join v w i o
  remade (Ok m) low marked gathered h = record {
    u = u;
    fared = fared-then (fared_same marked.same) gathered.fared;
    done = (omega (arith, lost_outs low gathered, h.done.0), h.done.1 (record { columns = outs_are; read = reads_are }), h.done.2 ∙ counts);
  }
    where
      outs_are : (c : ℕ) → c ≤ u.prime → in_set lost c ≡ is_out (u.strip i c)
      outs_are c l = gathered.columns c ∙ grind (arith, nat_tests, l, gathered.fared.kept.prime)

      reads_are : (c : ℕ) → Copied none u.prime (u.strip i c) c (u.prime - 1) xs
      reads_are c = rw gathered.fared.kept.prime (gathered.read c)

      counts : count_below (u.prime + 1) (λ c. in_set set c && is_held (w.strip i c)) ≡ count_below (v.prime + 1) (λ c. is_blank (v.strip i c) && is_held (w.strip i c))
      counts =
          ap (λ p. count_below (p + 1) (λ c. in_set set c && is_held (w.strip i c))) (gathered.fared.kept.prime ∙ marked.same.kept.prime)
          ∙ count_same (v.prime + 1) (λ c. in_set set c && is_held (w.strip i c)) (λ c. is_blank (v.strip i c) && is_held (w.strip i c)) (λ c l. ap (λ b. b && is_held (w.strip i c)) (marked.columns c ∙ grind (arith, nat_tests, l)))
  remade (Err s) low marked gathered h = record {
    u = u;
    fared = fared-then (fared_same marked.same) gathered.fared;
    done = (h.done.0, h.done.2, omega (arith, lost_outs low gathered, h.done.1));
  }

module _ {E : Type 0} (v : Meaning E) (i work : ℕ) where
  pub work_stop : work < work_in v.prime → (u : Meaning E) → First (RebuildStop v u i work) stop.Work
  work_stop h u = record { this = too_short h; lower = lower }
    where
      lower : (t : Stop) → number t < 9 → RebuildStop v u i work t → ⊥
      lower t l (too_short k) = omega arith
      lower t l (no_stripe k) = omega arith
      lower t l (lost_many k) = omega arith

  pub stripe_stop : work_in v.prime ≤ work → v.stripes ≤ i → (u : Meaning E) → First (RebuildStop v u i work) stop.Stripe
  stripe_stop enough h u = record { this = no_stripe h; lower = lower }
    where
      lower : (t : Stop) → number t < 10 → RebuildStop v u i work t → ⊥
      lower t l (too_short k) = omega arith
      lower t l (no_stripe k) = omega arith
      lower t l (lost_many k) = omega arith

  pub rebuild_step : {none : E} {join : E → E → E} {w : Meaning E} (o : Result ℕ Stop) → work_in v.prime ≤ work → i < v.stripes → Remade none join v w i o → RebuildStep none join v w i work o
  rebuild_step {none} {join} {w} (Ok m) enough low h = record { u = h.u; fared = h.fared; stops = none_fits; rests = tt; refilled = h.done.1; answer = h.done.2 }
    where
      none_fits : (t : Stop) → RebuildStop v h.u i work t → ⊥
      none_fits t (too_short k) = omega arith
      none_fits t (no_stripe k) = omega arith
      none_fits t (lost_many k) = omega (arith, h.done.0)
  rebuild_step {none} {join} {w} (Err s) enough low h = record {
    u = h.u;
    fared = h.fared;
    stops = rw h.done.0 record { this = lost_many h.done.2; lower = lower };
    rests = (h.done.1, λ l. absurd (omega (arith, ap number h.done.0)));
    refilled = tt;
    answer = tt;
  }
    where
      lower : (t : Stop) → number t < 13 → RebuildStop v h.u i work t → ⊥
      lower t l (too_short k) = omega arith
      lower t l (no_stripe k) = omega arith
      lower t l (lost_many k) = omega arith

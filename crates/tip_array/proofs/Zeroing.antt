-- Strips formatted one after another.
use Rattle.std.proofs.Common.{◌≡◌, ◌≢◌, ℕ, ◌+◌, ◌-◌, ◌<◌, ◌≤◌, Bool, true, false, ◌&&◌, ◌||◌, ◌==◌, List, length, Result, Ok, Err, nat_lt, sym, refl, ap, subst, ◌∙◌, ⊎_elim, arith}
use Rattle.std.proofs.lemmas.Bool.{cases_Bool}
use Rattle.std.proofs.lemmas.Bool.Decides.{nat_tests}
use Rattle.tip_element.specs.Counts.{join_below}
use Rattle.tip_element.specs.Slices.{AllZero}
use Rattle.tip_element.proofs.Joins.{join_same}
use Rattle.tip_code.specs.Stops.{number}
use Rattle.tip_code.specs.declared.stop.Stop.{Stop}
use Rattle.tip_code.specs.declared.stop.Stop.TheVariants as stop
use Rattle.tip_solve.specs.Solving.{work_in}
use Rattle.tip_shelf.specs.Meaning.{Strip, held, blank, absent, Meaning, Within, Sound}
use Rattle.tip_shelf.specs.Calls.{Same, Fares, stays as stays_same, drops as drops_out, Turns, erased, restored, Erased, Restored, Loads}
use Rattle.tip_shelf.specs.declared.shelf.Out.{Out}
use Rattle.tip_shelf.proofs.Strips.{kept_refl, kept-then, same_refl, fares-then}
use Rattle.tip_gather.specs.Gathering.{outs}
use Rattle.tip_array.specs.Steps.{Zeroed, zeros, stays, drops, FormatStop, too_short, FormatStep}
use Rattle.tip_array.specs.Formatting.{ZeroedPart}
use Rattle.tip_array.proofs.Stepping.{outs_same}
use Rattle.tip_array.proofs.Updating.{fares_same}

apart : (i c j k : ℕ) → (j == i && k == c) ≡ false → j ≡ i → k ≡ c → ⊥
apart i c j k off e f = grind (arith, nat_tests, off, e, f)

module _ {E : Type 0} where
  was_erased : (steady : Bool) (a b : Strip E) → Turns {A = Unit {0}} steady a b (erased a) (Ok tt) → (a ≢ absent) × (b ≡ blank)
  was_erased steady (held es) b t = ((λ e. cc), t)
  was_erased steady blank b t = ((λ e. cc), t)
  was_erased steady absent b t = absurd t

module _ {E : Type 0} {none : E} where
  fares_zeroed : {p q : ℕ} {steady after : Bool} (a b c : Strip E) → q ≡ p → after ≡ steady → Fares steady a b → Zeroed none q after b c → Zeroed none p steady a c
  fares_zeroed a b c same eq (stays_same e) (zeros es n to sized all) = zeros es (λ is. n (e ∙ is)) to (sized ∙ ap (λ k. k - 1) same) all
  fares_zeroed a b c same eq (stays_same e) (stays is to) = stays (sym e ∙ is) to
  fares_zeroed a b c same eq (drops_out f e) (zeros es n to sized all) = absurd (n e)
  fares_zeroed a b c same eq (drops_out f e) (stays is to) = drops f to
  fares_zeroed a b c same eq h (drops f to) = drops (sym eq ∙ f) to

  zeroed_fares : {p : ℕ} {steady after : Bool} (a b c : Strip E) → after ≡ steady → Zeroed none p steady a b → Fares after b c → Zeroed none p steady a c
  zeroed_fares a b c eq (zeros es n to sized all) (stays_same e) = zeros es n (e ∙ to) sized all
  zeroed_fares a b c eq (stays is to) (stays_same e) = stays is (e ∙ to)
  zeroed_fares a b c eq (drops f to) (stays_same e) = drops f (e ∙ to)
  zeroed_fares a b c eq h (drops_out f e) = drops (sym eq ∙ f) e

  pub part_none : (v : Meaning E) (done : ℕ → ℕ → Bool) → ((j c : ℕ) → done j c ≡ false) → ZeroedPart none v v done
  part_none v done off = record { kept = kept_refl v; strips = λ j c on. absurd (both (done j c) on (off j c)); others = λ j c _. stays_same refl }
    where
      both : (b : Bool) → b ≡ true → b ≡ false → ⊥
      both b on off = cc

  pub part-then : {u v w : Meaning E} (s t both : ℕ → ℕ → Bool) → ((j c : ℕ) → s j c ≡ true → t j c ≡ true → ⊥) → ((j c : ℕ) → both j c ≡ (s j c || t j c)) → ZeroedPart none u v s → ZeroedPart none v w t → ZeroedPart none u w both
  part-then {u} {v} {w} s t both apart all h k = record {
    kept = kept-then h.kept k.kept;
    strips = λ j c on. go j c (s j c) (t j c) refl refl (sym (all j c) ∙ on);
    others = λ j c off. let parts = neither (s j c) (t j c) (sym (all j c) ∙ off) in fares-then h.kept.steady (h.others j c parts.0) (k.others j c parts.1);
  }
    where
      neither : (a b : Bool) → (a || b) ≡ false → (a ≡ false) × (b ≡ false)
      neither true b e = absurd (cc)
      neither false b e = (refl, e)

      go : (j c : ℕ) (a b : Bool) → s j c ≡ a → t j c ≡ b → (a || b) ≡ true → Zeroed none u.prime u.steady (u.strip j c) (w.strip j c)
      go j c true true p q e = absurd (apart j c p q)
      go j c true false p q e = zeroed_fares (u.strip j c) (v.strip j c) (w.strip j c) h.kept.steady (h.strips j c p) (k.others j c q)
      go j c false true p q e = fares_zeroed (u.strip j c) (v.strip j c) (w.strip j c) h.kept.prime h.kept.steady (h.others j c p) (k.strips j c q)
      go j c false false p q e = absurd (cc)

  pub part_along : {v w : Meaning E} (s t : ℕ → ℕ → Bool) → ((j c : ℕ) → t j c ≡ s j c) → ZeroedPart none v w s → ZeroedPart none v w t
  part_along s t same h = record { kept = h.kept; strips = λ j c on. h.strips j c (sym (same j c) ∙ on); others = λ j c off. h.others j c (sym (same j c) ∙ off) }

  module _ {v : Meaning E} {i c : ℕ} (there : Within v i c) where
    here : (w : Meaning E) → Zeroed none v.prime v.steady (v.strip i c) (w.strip i c) → (j k : ℕ) → (j == i && k == c) ≡ true → Zeroed none v.prime v.steady (v.strip j k) (w.strip j k)
    here w z j k on = let e : j ≡ i = grind (arith, nat_tests, on) in let f : k ≡ c = grind (arith, nat_tests, on) in rw (e, f) z

    -- the strip could not be erased
    not_erased : (steady : Bool) (a b : Strip E) (o : Out) → Turns {A = Unit {0}} steady a b (erased a) (Err o) → Zeroed none v.prime steady a b
    not_erased steady (held es) b o t = drops t.0 t.1
    not_erased steady blank b o t = drops t.0 t.1
    not_erased steady absent b o (stays_same e) = stays refl e
    not_erased steady absent b o (drops_out f e) = stays refl e

    pub zero_out : {w : Meaning E} {o : Out} → Erased {A = Unit {0}} v w i c (Err o) → ZeroedPart none v w (λ j k. j == i && k == c)
    zero_out {w} {o} h = record {
      kept = h.kept;
      strips = here w (not_erased v.steady (v.strip i c) (w.strip i c) o (h.here there));
      others = λ j k off. h.others j k (apart i c j k off);
    }

    refilled : (steady after : Bool) (a b d : Strip E) (es : List E) (o : Result (Unit {0}) Out) → after ≡ steady → a ≢ absent → b ≡ blank → length es ≡ v.prime - 1 → AllZero none es → Turns after b d (restored es b) o → Zeroed none v.prime steady a d
    refilled steady after a b d es (Ok _) same n is sized all t = zeros es n (subst (λ (q : Strip E). Turns {A = Unit {0}} after q d (restored es q) (Ok tt)) is t) sized all
    refilled steady after a b d es (Err o) same n is sized all t =
        let both : (after ≡ false) × (d ≡ absent) = subst (λ (q : Strip E). Turns {A = Unit {0}} after q d (restored es q) (Err o)) is t in
        drops (sym same ∙ both.0) both.1

    pub zero_done : {u w : Meaning E} {es : List E} {o : Result (Unit {0}) Out} → length es ≡ v.prime - 1 → AllZero none es → Erased {A = Unit {0}} v u i c (Ok tt) → Restored u w i c es o → ZeroedPart none v w (λ j k. j == i && k == c)
    zero_done {u} {w} {es} {o} sized all h k =
        let gone = was_erased v.steady (v.strip i c) (u.strip i c) (h.here there) in
        let range : Loads u i c es = record { within = record { stripe = omega (arith, there.stripe, h.kept.stripes); column = omega (arith, there.column, h.kept.prime) }; sized = omega (arith, sized, h.kept.prime) } in
        record {
          kept = kept-then h.kept k.kept;
          strips = here w (refilled v.steady u.steady (v.strip i c) (u.strip i c) (w.strip i c) es o h.kept.steady gone.0 gone.1 sized all (k.here range));
          others = λ j q off. fares-then h.kept.steady (h.others j q (apart i c j q off)) (k.others j q (apart i c j q off));
        }

  -- all strips formatted and counted
  pub format_step : {v u w : Meaning E} {work m : ℕ} → Sound v → work_in v.prime ≤ work → ZeroedPart none v u (λ j c. nat_lt j v.stripes && nat_lt c (v.prime + 1)) → Same u w → m ≡ join_below 0 ◌+◌ u.stripes (outs u) → FormatStep none v w work (Ok m)
  format_step {v} {u} {w} {work} {m} sound enough h same is = record {
    kept = kept-then h.kept same.kept;
    stops = none_fits;
    rests = tt;
    strips = λ i c. each i c;
    answer = is ∙ join_same 0 ◌+◌ u.stripes (outs u) (outs w) (λ i _. sym (outs_same i same)) ∙ ap (λ n. join_below 0 ◌+◌ n (outs w)) (sym same.kept.stripes);
  }
    where
      none_fits : (t : Stop) → FormatStop v work t → ⊥
      none_fits t (too_short k) = omega arith

      unmoved : (i c : ℕ) → (nat_lt i v.stripes && nat_lt c (v.prime + 1)) ≡ false → v.strip i c ≡ absent
      unmoved i c off = sound.outside i c (λ k. grind (arith, nat_tests, off, k.stripe, k.column))

      gone : (a b : Strip E) → a ≡ absent → Fares v.steady a b → Zeroed none v.prime v.steady a b
      gone a b is (stays_same e) = stays is (e ∙ is)
      gone a b is (drops_out f e) = drops f e

      each : (i c : ℕ) → Zeroed none v.prime v.steady (v.strip i c) (w.strip i c)
      each i c =
          ⊎_elim
          (λ on. zeroed_fares (v.strip i c) (u.strip i c) (w.strip i c) h.kept.steady (h.strips i c on) (stays_same (same.strip i c)))
          (λ off. gone (v.strip i c) (w.strip i c) (unmoved i c off) (fares_same (same.strip i c) (h.others i c off)))
          (cases_Bool (nat_lt i v.stripes && nat_lt c (v.prime + 1)))

  pub format_stopped : {v : Meaning E} {work : ℕ} → work < work_in v.prime → FormatStep none v v work (Err stop.Work)
  format_stopped {v} {work} h = record {
    kept = kept_refl v;
    stops = record { this = too_short h; lower = lower };
    rests = (same_refl v, λ _. same_refl v);
    strips = tt;
    answer = tt;
  }
    where
      lower : (t : Stop) → number t < 9 → FormatStop v work t → ⊥
      lower t l (too_short k) = omega arith

-- the marks of two loops
pub next_column : (i n j c : ℕ) → (j == i && nat_lt c (n + 1)) ≡ ((j == i && nat_lt c n) || (j == i && c == n))
next_column i n j c = grind (arith, nat_tests)

pub column_apart : (i n j c : ℕ) → (j == i && nat_lt c n) ≡ true → (j == i && c == n) ≡ true → ⊥
column_apart i n j c a b = grind (arith, nat_tests, a, b)

pub next_stripe : (n p j c : ℕ) → (nat_lt j (n + 1) && nat_lt c p) ≡ ((nat_lt j n && nat_lt c p) || (j == n && nat_lt c p))
next_stripe n p j c = grind (arith, nat_tests)

pub stripe_apart : (n p j c : ℕ) → (nat_lt j n && nat_lt c p) ≡ true → (j == n && nat_lt c p) ≡ true → ⊥
stripe_apart n p j c a b = grind (arith, nat_tests, a, b)

-- What each call does to a shelf that mirrors a scoreboard: all that runs need of the calls.
use Rattle.std.proofs.Common.{◌≡◌, ◌≢◌, ℕ, ◌+◌, ◌-◌, ◌<◌, ◌≤◌, Bool, true, false, cond, ◌⊎◌, inl, inr, List, Result, Ok, Err, sym, refl, ap, subst, ◌∙◌, ⊎_elim, arith}
use Rattle.std.proofs.lemmas.Bool.Decides.{nat_tests}
use Rattle.std.proofs.lemmas.Bool.{cases_eq, cases_lt}
use Rattle.tip_element.specs.Counts.{count_below}
use Rattle.tip_element.specs.Laws.{Laws}
use Rattle.tip_element.proofs.Bits.{count_same}
use Rattle.tip_code.specs.Encoding.{encoding}
use Rattle.tip_code.specs.Geometry.{places_in}
use Rattle.tip_code.specs.Places.{Place}
use Rattle.tip_code.specs.Primes.{listed}
use Rattle.tip_code.specs.Stops.{number, First}
use Rattle.tip_solve.specs.Solving.{work_in}
use Rattle.tip_code.specs.declared.stop.Stop.{Stop}
use Rattle.tip_code.specs.declared.stop.Stop.TheVariants as stop
use Rattle.tip_code.proofs.Encodings.{one_encoding}
use Rattle.tip_code.proofs.Numbers.{numbering}
use Rattle.tip_shelf.specs.Meaning.{Strip, held, blank, absent, Meaning, Within}
use Rattle.tip_shelf.specs.Calls.{Kept, Same, Fared, is_out}
use Rattle.tip_shelf.specs.Service.{Renews, Pulled, Fitted}
use Rattle.tip_shelf.proofs.Strips.{kept-then}
use Rattle.tip_shelf.proofs.Faring.{fared_same, fares_held, out_not_held}
use Rattle.tip_gather.specs.Gathering.{outs}
use Rattle.tip_array.specs.Stripes.{IsColumn, Lost, concerned}
use Rattle.tip_array.specs.Steps.{Outcome, outcome, ReadStop, too_short, no_stripe, no_place, lost, IsElement, ReadStep, Joins, joins, stays, drops, Updated, WriteStep, RebuildStop, Refills, refills, Refilled, RebuildStep, CheckStop, CheckStep, DeviceStop, no_device, PullStep, FitStep, Step}
use Rattle.tip_array.specs.Runs.{Board, with_entry, noted, accepted, IsRefusedForLoss, Gives, Passes, LossRule, Mirrors}
use Rattle.tip_array.specs.declared.calls.Checks.{Checks}
use Rattle.tip_array.specs.declared.calls.Call.{Call}
use Rattle.tip_array.specs.declared.calls.Call.TheVariants.{Read, Write, Rebuild, Check, Pull, Fit}
use Rattle.tip_array.specs.declared.calls.Answer.{Answer}
use Rattle.tip_array.specs.declared.calls.Answer.TheVariants as answer
use Rattle.tip_array.proofs.Changing.{encoding_same, encoding_changed}

-- a strip is held at w only if it was held at v, with the same elements
abbrev pub HeldBefore : {E : Type 0} → Meaning E → Meaning E → Type 0
HeldBefore {E} v w = (i c : ℕ) (es : List E) → Within w i c → w.strip i c ≡ held es → v.strip i c ≡ held es

module _ {E : Type 0} where
  pub within_back : {v w : Meaning E} {i c : ℕ} → Kept v w → Within w i c → Within v i c
  within_back k h = record { stripe = omega (arith, k.stripes, h.stripe); column = omega (arith, k.prime, h.column) }

  pub is_blank_or : (s : Strip E) → (s ≡ blank) ⊎ (s ≢ blank)
  is_blank_or (held es) = inr (λ e. cc)
  is_blank_or blank = inl refl
  is_blank_or absent = inr (λ e. cc)

  pub held_is : (s : Strip E) (es fs : List E) → s ≡ held es → s ≡ held fs → es ≡ fs
  held_is s es fs h k = cc

  pub not_held : (s : Strip E) (es : List E) → s ≡ absent → s ≡ held es → ⊥
  not_held s es h k = cc

  blank_not_held : (s : Strip E) (es : List E) → s ≡ blank → s ≡ held es → ⊥
  blank_not_held s es h k = cc

  pub fared_before : {v w : Meaning E} → Fared v w → HeldBefore v w
  fared_before h i c es _ is = fares_held (h.strips i c) is

  pulled_before : {v w : Meaning E} {d : ℕ} → Pulled v w d → HeldBefore v w
  pulled_before {v} {w} {d} h i c es _ is =
      ⊎_elim
      (λ (e : v.device i c ≡ d). ⊎_elim
      (λ (past : v.prime < d). sym ((h.beyond past).strip i c) ∙ is)
      (λ (low : d ≤ v.prime). absurd (not_held (w.strip i c) es (h.gone low i c e) is))
      (cases_lt v.prime d))
      (λ (e : v.device i c ≢ d). fares_held (h.others i c e) is)
      (cases_eq (v.device i c) d)

  renewed_before : (steady : Bool) (s t : Strip E) (es : List E) → Renews steady s t → t ≡ held es → s ≡ held es
  renewed_before steady (held fs) t es h is = fares_held h is
  renewed_before steady blank t es h is = fares_held h is
  renewed_before steady absent t es h is = absurd (blank_not_held t es h is)

  fitted_before : {v w : Meaning E} {d : ℕ} (told : Bool) → Fitted v w d told → HeldBefore v w
  fitted_before {v} {w} {d} false h i c es _ is = fares_held (h.refuses refl i c) is
  fitted_before {v} {w} {d} true h i c es within is =
      ⊎_elim
      (λ (e : v.device i c ≡ d). renewed_before v.steady (v.strip i c) (w.strip i c) es (h.fits refl i c (within_back h.kept within) e) is)
      (λ (e : v.device i c ≢ d). fares_held (h.others i c e) is)
      (cases_eq (v.device i c) d)

  pub outs_same : {u w : Meaning E} (i : ℕ) → Same u w → outs w i ≡ outs u i
  outs_same {u} {w} i s =
      ap (λ p. count_below (p + 1) (λ c. is_out (w.strip i c))) s.kept.prime
      ∙ count_same (u.prime + 1) (λ c. is_out (w.strip i c)) (λ c. is_out (u.strip i c)) (λ c _. ap is_out (s.strip i c))

  pub lost_same : {u w : Meaning E} {i n : ℕ} → Same u w → Lost u i n → Lost w i n
  lost_same {u} {w} {i} {n} same h = record {
    stripe = rw same.kept.stripes h.stripe;
    place = rw same.kept.prime h.place;
    out = λ r c at. ap is_out (same.strip i c) ∙ h.out r c (subst (λ p. Place p n r c) same.kept.prime at);
    many = omega (arith, outs_same i same, h.many);
  }

module _ {E : Type 0} {none : E} {join : E → E → E} (laws : Laws none join) where
  -- elements that are a column of one stripe are that of another that is the same there
  column_along : {p c : ℕ} {X Y : ℕ → ℕ → E} {es : List E} → ((r : ℕ) → r < p - 1 → X r c ≡ Y r c) → IsColumn none p X c es → IsColumn none p Y c es
  column_along same h = record { sized = h.sized; rows = λ r l. h.rows r l ∙ same r l }

  -- where no strip turns held, the shelf goes on mirroring the scoreboard
  mirrors_before : {v w : Meaning E} {b : Board E} → Kept v w → HeldBefore v w → Mirrors none join v b → Mirrors none join w b
  mirrors_before {v} {w} {b} kept before h = record { stripes = λ i c es within is. rw kept.prime (h.stripes i c es (within_back kept within) (before i c es within is)) }

  mirrors_fared : {v w : Meaning E} {b : Board E} → Fared v w → Mirrors none join v b → Mirrors none join w b
  mirrors_fared h = mirrors_before h.kept (fared_before h)

  mirrors_same : {v w : Meaning E} {b : Board E} → Same v w → Mirrors none join v b → Mirrors none join w b
  mirrors_same h = mirrors_fared (fared_same h)

  -- what is read at u is the scoreboard's
  element_is : {u : Meaning E} {b : Board E} {i n : ℕ} {e : E} → listed u.prime ≡ true → Mirrors none join u b → n < places_in u.prime → IsElement none join u i n e → e ≡ b i n
  element_is {u} {b} {i} {n} {e} t h low is =
      let found = (numbering u.prime t).found n low in
      let whole = (one_encoding none join u.prime t).exists (b i) in
      is.solved (encoding none join u.prime (b i)) whole.encoded (h.stripes i) found.0 found.1 found.2 ∙ whole.places n found.0 found.1 found.2

  -- an accepted read or write has a place
  pub place_low : {v u : Meaning E} {i n work : ℕ} → ((s : Stop) → ReadStop v u i n work s → ⊥) → n < places_in v.prime
  place_low {v} {u} {i} {n} {work} h = ⊎_elim (λ (l : n < places_in v.prime). l) (λ (l : places_in v.prime ≤ n). absurd (h stop.Place (no_place l))) (cases_lt n (places_in v.prime))

  read_mirrors : {v w : Meaning E} {b : Board E} {i n work : ℕ} {o : Result E Stop} → ReadStep none join v w i n work o → Mirrors none join v b → Mirrors none join w b
  read_mirrors h = mirrors_fared h.fared

  -- a changed strip of a stripe whose scoreboard has one element set
  joined_column : {p : ℕ} (r c : ℕ) {k : ℕ} {X Y : ℕ → ℕ → E} {x : E} {steady : Bool} {before after : Strip E} → ((es : List E) → before ≡ held es → IsColumn none p X k es) → ((s : ℕ) → s < p - 1 → Y s k ≡ cond (concerned p r c s k) (join (X s k) x) (X s k)) → Joins none join (λ s. concerned p r c s k) x steady before after → (fs : List E) → after ≡ held fs → IsColumn none p Y k fs
  joined_column {p} r c {k} {X} {Y} {x} old new (joins es gs is to sized each) fs now =
      let col = old es is in
      rw (held_is _ fs gs now to) record {
        sized = sized ∙ col.sized;
        rows = λ s l.
            each s (omega (arith, l, col.sized))
            ∙ ap (λ y. cond (concerned p r c s k) (join y x) y) (col.rows s l)
            ∙ sym (new s l);
      }
  joined_column r c old new (stays out same) fs now = absurd (out_not_held _ fs out (sym same ∙ now))
  joined_column r c old new (drops f gone) fs now = absurd (not_held _ fs gone now)

  module _ {u w : Meaning E} {b : Board E} {i n : ℕ} {e : E} (t : listed u.prime ≡ true) (old : Mirrors none join u b) (low : n < places_in u.prime) (h : (r c : ℕ) → Place u.prime n r c → Updated none join u w i (concerned u.prime r c) (join (b i n) e)) where
    found : (r : ℕ) × (c : ℕ) × Place u.prime n r c
    found = (numbering u.prime t).found n low

    up : Updated none join u w i (concerned u.prime found.0 found.1) (join (b i n) e)
    up = h found.0 found.1 found.2

    entry_here : with_entry b i n e i n ≡ e
    entry_here = grind (arith, nat_tests)

    entry_place : (m : ℕ) → m ≢ n → with_entry b i n e i m ≡ b i m
    entry_place m ne = grind (arith, nat_tests, ne)

    entry_stripe : (j m : ℕ) → j ≢ i → with_entry b i n e j m ≡ b j m
    entry_stripe j m ne = grind (arith, nat_tests, ne)

    updated_here : (k : ℕ) (fs : List E) → Within u i k → w.strip i k ≡ held fs → IsColumn none u.prime (encoding none join u.prime (with_entry b i n e i)) k fs
    updated_here k fs within is =
        joined_column found.0 found.1 (λ es. old.stripes i k es within)
        (λ s l. encoding_changed laws u.prime t (b i) (with_entry b i n e i) n found.0 found.1 e found.2 entry_here entry_place s k l within.column)
        (up.stripe k) fs is

    updated_other : (j k : ℕ) (fs : List E) → j ≢ i → Within u j k → w.strip j k ≡ held fs → IsColumn none u.prime (encoding none join u.prime (with_entry b i n e j)) k fs
    updated_other j k fs ne within is =
        column_along (λ s l. encoding_same laws u.prime t (b j) (with_entry b i n e j) (λ m. entry_stripe j m ne) s k l within.column)
        (old.stripes j k fs within (fares_held (up.others j k ne) is))

    updated_mirrors : Mirrors none join w (with_entry b i n e)
    updated_mirrors = record {
      stripes = λ j k fs within is.
          let there = within_back up.kept within in
          rw up.kept.prime
          (⊎_elim
          (λ (same : j ≡ i). rw same (updated_here k fs (subst (λ q. Within u q k) same there) (subst (λ q. w.strip q k ≡ held fs) same is)))
          (λ (ne : j ≢ i). updated_other j k fs ne there is)
          (cases_eq j i));
    }

  write_mirrors : {v w : Meaning E} {b : Board E} {i n work : ℕ} {e : E} (o : Result ℕ Stop) → listed v.prime ≡ true → WriteStep none join v w i n e work o → Mirrors none join v b → Mirrors none join w (noted b (Write i n e) (accepted (outcome {A = ℕ} {E = E} answer.Written o)))
  write_mirrors {v} {w} {b} {i} {n} {work} {e} (Ok a) t h old =
      let tu : listed h.u.prime ≡ true = rw h.fared.kept.prime t in
      let low : n < places_in h.u.prime = rw h.fared.kept.prime (place_low h.stops) in
      let mid = mirrors_fared h.fared old in
      let is : h.old ≡ b i n = element_is tu mid low h.read in
      updated_mirrors tu mid low (subst (λ y. (r c : ℕ) → Place h.u.prime n r c → Updated none join h.u w i (concerned h.u.prime r c) (join y e)) is h.updated)
  write_mirrors (Err s) t h old = mirrors_same h.rests.0 (mirrors_fared h.fared old)

  refilled_mirrors : {u w : Meaning E} {b : Board E} {i : ℕ} → listed u.prime ≡ true → Refilled none join u w i → Mirrors none join u b → Mirrors none join w b
  refilled_mirrors {u} {w} {b} {i} t h old = record {
    stripes = λ j c es within is.
        let there = within_back h.kept within in
        rw h.kept.prime
        (⊎_elim
        (λ (same : j ≡ i). ⊎_elim
        (λ (e : u.strip i c ≡ blank). rw same (refilled c es (w.strip i c) (h.blanks c e) (subst (λ q. w.strip q c ≡ held es) same is)))
        (λ (e : u.strip i c ≢ blank). old.stripes j c es there (fares_held (h.others j c (λ _. e)) is))
        (is_blank_or (u.strip i c)))
        (λ (ne : j ≢ i). old.stripes j c es there (fares_held (h.others j c (λ same. absurd (ne same))) is))
        (cases_eq j i));
  }
    where
      refilled : (c : ℕ) (es : List E) (after : Strip E) → Refills none join u i c after → after ≡ held es → IsColumn none u.prime (encoding none join u.prime (b i)) c es
      refilled c es after (refills fs to sized each) now =
          rw (held_is after es fs now to) (each (encoding none join u.prime (b i)) ((one_encoding none join u.prime t).exists (b i)).encoded (old.stripes i))
      refilled c es after (drops f gone) now = absurd (not_held after es gone now)

  rebuild_mirrors : {v w : Meaning E} {b : Board E} {i work : ℕ} (o : Result ℕ Stop) → listed v.prime ≡ true → RebuildStep none join v w i work o → Mirrors none join v b → Mirrors none join w b
  rebuild_mirrors (Ok a) t h old = refilled_mirrors (rw h.fared.kept.prime t) h.refilled (mirrors_fared h.fared old)
  rebuild_mirrors (Err s) t h old = mirrors_same h.rests.0 (mirrors_fared h.fared old)

  pub pull_kept_before : {v w : Meaning E} {d : ℕ} (o : Result (Unit {0}) Stop) → PullStep v w d o → Kept v w × HeldBefore v w
  pull_kept_before (Ok a) h = (h.pulled.kept, pulled_before h.pulled)
  pull_kept_before (Err s) h = (h.rests.0.kept, fared_before (fared_same h.rests.0))

  pub fit_kept_before : {v w : Meaning E} {d : ℕ} (o : Result Bool Stop) → FitStep v w d o → Kept v w × HeldBefore v w
  fit_kept_before (Ok told) h = (h.answer.kept, fitted_before told h.answer)
  fit_kept_before (Err s) h = (h.rests.0.kept, fared_before (fared_same h.rests.0))

  -- FACT 1: what the shelf mirrors after a call
  pub step_mirrors : (v w : Meaning E) (b : Board E) (call : Call E) (work : ℕ) (o : Outcome E) → listed v.prime ≡ true → Step none join v w call work o → Mirrors none join v b → Mirrors none join w (noted b call (accepted o))
  step_mirrors v w b (Read i n) work o t h old = mirrors_fared h.2.fared old
  step_mirrors v w b (Write i n e) work o t h old = subst (λ q. Mirrors none join w (noted b (Write i n e) (accepted q))) (sym h.1) (write_mirrors h.0 t h.2 old)
  step_mirrors v w b (Rebuild i) work o t h old = rebuild_mirrors h.0 t h.2 old
  step_mirrors v w b (Check i) work o t h old = mirrors_fared h.2.fared old
  step_mirrors v w b (Pull d) work o t h old = let both = pull_kept_before h.0 h.2 in mirrors_before both.0 both.1 old
  step_mirrors v w b (Fit d) work o t h old = let both = fit_kept_before h.0 h.2 in mirrors_before both.0 both.1 old

  write_kept : {v w : Meaning E} {i n work : ℕ} {e : E} (o : Result ℕ Stop) → listed v.prime ≡ true → WriteStep none join v w i n e work o → Kept v w
  write_kept {v} {w} {i} {n} (Ok a) t h =
      let tu : listed h.u.prime ≡ true = rw h.fared.kept.prime t in
      let found = (numbering h.u.prime tu).found n (rw h.fared.kept.prime (place_low h.stops)) in
      kept-then h.fared.kept (h.updated found.0 found.1 found.2).kept
  write_kept (Err s) t h = kept-then h.fared.kept h.rests.0.kept

  rebuild_kept : {v w : Meaning E} {i work : ℕ} (o : Result ℕ Stop) → RebuildStep none join v w i work o → Kept v w
  rebuild_kept (Ok a) h = kept-then h.fared.kept h.refilled.kept
  rebuild_kept (Err s) h = kept-then h.fared.kept h.rests.0.kept

  -- FACT 2: the sizes stay
  pub step_kept : (v w : Meaning E) (call : Call E) (work : ℕ) (o : Outcome E) → listed v.prime ≡ true → Step none join v w call work o → Kept v w
  step_kept v w (Read i n) work o t h = h.2.fared.kept
  step_kept v w (Write i n e) work o t h = write_kept h.0 t h.2
  step_kept v w (Rebuild i) work o t h = rebuild_kept h.0 h.2
  step_kept v w (Check i) work o t h = h.2.fared.kept
  step_kept v w (Pull d) work o t h = (pull_kept_before h.0 h.2).0
  step_kept v w (Fit d) work o t h = (fit_kept_before h.0 h.2).0

  read_gives : {v w : Meaning E} {b : Board E} {i n work : ℕ} {e : E} (o : Result E Stop) → listed v.prime ≡ true → ReadStep none join v w i n work o → Mirrors none join v b → Gives (outcome {A = E} {E = E} answer.Read o) e → e ≡ b i n
  read_gives {v} {w} {b} {i} {n} {work} {e} (Ok a) t h old is =
      let tw : listed w.prime ≡ true = rw h.fared.kept.prime t in
      let low : n < places_in w.prime = rw h.fared.kept.prime (place_low h.stops) in
      let same : e ≡ a = cc in
      same ∙ element_is tw (mirrors_fared h.fared old) low h.answer
  read_gives (Err s) t h old is = absurd (cc)

  -- FACT 3: an accepted read gives what the scoreboard shows
  pub step_gives : (v w : Meaning E) (b : Board E) (call : Call E) (work : ℕ) (o : Outcome E) (i n : ℕ) (e : E) → listed v.prime ≡ true → Step none join v w call work o → Mirrors none join v b → call ≡ Read i n → Gives o e → e ≡ b i n
  step_gives v w b call work o i n e t h old is gives =
      let s : Step none join v w (Read i n) work o = subst (λ k. Step none join v w k work o) is h in
      read_gives s.0 t s.2 old (sym s.1 ∙ gives)

  read_lost : {v u : Meaning E} {i n work : ℕ} (s : Stop) → ReadStop v u i n work s → s ≡ stop.Lost → Lost u i n
  read_lost s (too_short h) e = absurd (cc)
  read_lost s (no_stripe h) e = absurd (cc)
  read_lost s (no_place h) e = absurd (cc)
  read_lost s (lost h) e = h

  read_passed : {v u : Meaning E} {i n work : ℕ} (s : Stop) → Passes v i n work → ReadStop v u i n work s → s ≡ stop.Lost
  read_passed s p (too_short h) = absurd (omega (arith, p.enough, h))
  read_passed s p (no_stripe h) = absurd (omega (arith, p.stripe, h))
  read_passed s p (no_place h) = absurd (omega (arith, p.place, h))
  read_passed s p (lost h) = refl

  rebuild_lost : {v u : Meaning E} {i work : ℕ} (s : Stop) → RebuildStop v u i work s → s ≡ stop.Lost → 3 < outs u i
  rebuild_lost s (too_short h) e = absurd (cc)
  rebuild_lost s (no_stripe h) e = absurd (cc)
  rebuild_lost s (lost h) e = h

  check_lost : {v : Meaning E} {i : ℕ} (s : Stop) → CheckStop v i s → s ≡ stop.Lost → ⊥
  check_lost s (no_stripe h) e = cc

  device_lost : {v : Meaning E} {d : ℕ} (s : Stop) → DeviceStop v d s → s ≡ stop.Lost → ⊥
  device_lost s (no_device h) e = cc

  -- the outcome is a refusal for loss where the result is
  named_lost : {A : Type 0} (name : A → Answer E) (r : Result A Stop) → (IsRefusedForLoss (outcome name r) → r ≡ Err stop.Lost) × (r ≡ Err stop.Lost → IsRefusedForLoss (outcome name r))
  named_lost name (Ok a) = (λ e. absurd (cc), λ e. absurd (cc))
  named_lost name (Err s) = (λ e. cc, λ e. cc)

  -- a read or write that is refused for loss passed the stops before
  read_passes : {v u : Meaning E} {i n work : ℕ} {s : Stop} → First (ReadStop v u i n work) s → s ≡ stop.Lost → Passes v i n work
  read_passes {v} {u} {i} {n} {work} h e = record {
    enough = ⊎_elim (λ (l : work < work_in v.prime). absurd (h.lower stop.Work (omega (arith, ap number e)) (too_short l))) (λ (l : work_in v.prime ≤ work). l) (cases_lt work (work_in v.prime));
    stripe = ⊎_elim (λ (l : i < v.stripes). l) (λ (l : v.stripes ≤ i). absurd (h.lower stop.Stripe (omega (arith, ap number e)) (no_stripe l))) (cases_lt i v.stripes);
    place = ⊎_elim (λ (l : n < places_in v.prime). l) (λ (l : places_in v.prime ≤ n). absurd (h.lower stop.Place (omega (arith, ap number e)) (no_place l))) (cases_lt n (places_in v.prime));
  }

  read_loss : {v w : Meaning E} {i n work : ℕ} (o : Result E Stop) → ReadStep none join v w i n work o → (o ≡ Err stop.Lost → Passes v i n work × Lost w i n) × (Passes v i n work × Lost w i n → o ≡ Err stop.Lost)
  read_loss (Ok a) h = (λ e. absurd (cc), λ k. absurd (h.stops stop.Lost (lost k.1)))
  read_loss (Err s) h = (λ e. let is : s ≡ stop.Lost = cc in (read_passes h.stops is, read_lost s h.stops.this is), λ k. ap Err (read_passed s k.0 h.stops.this))

  write_loss : {v w : Meaning E} {i n work : ℕ} {e : E} (o : Result ℕ Stop) → WriteStep none join v w i n e work o → o ≡ Err stop.Lost → Passes v i n work × Lost w i n
  write_loss (Ok a) h e = absurd (cc)
  write_loss (Err s) h e = let is : s ≡ stop.Lost = cc in (read_passes h.stops is, lost_same h.rests.0 (read_lost s h.stops.this is))

  rebuild_loss : {v w : Meaning E} {i work : ℕ} (o : Result ℕ Stop) → RebuildStep none join v w i work o → o ≡ Err stop.Lost → (work_in v.prime ≤ work) × (i < v.stripes) × (3 < outs w i)
  rebuild_loss (Ok a) h e = absurd (cc)
  rebuild_loss {v} {w} {i} {work} (Err s) h e =
      let is : s ≡ stop.Lost = cc in (
        ⊎_elim (λ (l : work < work_in v.prime). absurd (h.stops.lower stop.Work (omega (arith, ap number is)) (too_short l))) (λ (l : work_in v.prime ≤ work). l) (cases_lt work (work_in v.prime)),
        ⊎_elim (λ (l : i < v.stripes). l) (λ (l : v.stripes ≤ i). absurd (h.stops.lower stop.Stripe (omega (arith, ap number is)) (no_stripe l))) (cases_lt i v.stripes),
        omega (arith, outs_same i h.rests.0, rebuild_lost s h.stops.this is),
      )

  check_loss : {v w : Meaning E} {i : ℕ} (o : Result Checks Stop) → CheckStep none join v w i o → o ≡ Err stop.Lost → ⊥
  check_loss (Ok a) h e = cc
  check_loss (Err s) h e = check_lost s h.stops.this cc

  pull_loss : {v w : Meaning E} {d : ℕ} (o : Result (Unit {0}) Stop) → PullStep v w d o → o ≡ Err stop.Lost → ⊥
  pull_loss (Ok a) h e = cc
  pull_loss (Err s) h e = device_lost s h.stops.this cc

  fit_loss : {v w : Meaning E} {d : ℕ} (o : Result Bool Stop) → FitStep v w d o → o ≡ Err stop.Lost → ⊥
  fit_loss (Ok a) h e = cc
  fit_loss (Err s) h e = device_lost s h.stops.this cc

  was_lost : {A : Type 0} (name : A → Answer E) (r : Result A Stop) {o : Outcome E} → o ≡ outcome name r → IsRefusedForLoss o → r ≡ Err stop.Lost
  was_lost name r is e = (named_lost name r).0 (sym is ∙ e)

  -- FACT 4: refusals for loss keep their rule
  pub step_loss : (v w : Meaning E) (call : Call E) (work : ℕ) (o : Outcome E) → Step none join v w call work o → LossRule v w call work o
  step_loss v w (Read i n) work o h =
      (λ e. (read_loss h.0 h.2).0 (was_lost answer.Read h.0 h.1 e), λ k. h.1 ∙ (named_lost answer.Read h.0).1 ((read_loss h.0 h.2).1 k))
  step_loss v w (Write i n e) work o h = λ x. write_loss h.0 h.2 (was_lost answer.Written h.0 h.1 x)
  step_loss v w (Rebuild i) work o h = λ x. rebuild_loss h.0 h.2 (was_lost answer.Rebuilt h.0 h.1 x)
  step_loss v w (Check i) work o h = λ x. check_loss h.0 h.2 (was_lost answer.Checked h.0 h.1 x)
  step_loss v w (Pull d) work o h = λ x. pull_loss h.0 h.2 (was_lost {A = Unit {0}} (λ _. answer.Pulled) h.0 h.1 x)
  step_loss v w (Fit d) work o h = λ x. fit_loss h.0 h.2 (was_lost answer.Fitted h.0 h.1 x)

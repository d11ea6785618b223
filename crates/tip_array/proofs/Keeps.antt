-- What no call does to a strip.
use Rattle.std.proofs.Common.{◌≡◌, ◌≢◌, ℕ, Bool, true, false, ◌⊎◌, inl, inr, ◌+◌, ◌<◌, ◌≤◌, List, Result, Ok, Err, sym, refl, ap, subst, ◌∙◌, ⊎_elim, arith}
use Rattle.std.proofs.lemmas.Bool.{cases_eq, cases_lt}
use Rattle.tip_element.specs.Laws.{Laws}
use Rattle.tip_code.specs.Primes.{listed}
use Rattle.tip_code.specs.declared.stop.Stop.{Stop}
use Rattle.tip_code.proofs.Numbers.{numbering}
use Rattle.tip_shelf.specs.Meaning.{Strip, held, blank, absent, Meaning, Within, Sound}
use Rattle.tip_shelf.specs.Calls.{Fares, stays as stays_same, drops as drops_out, Fared, is_held}
use Rattle.tip_shelf.specs.Service.{Pulled}
use Rattle.tip_shelf.proofs.Faring.{fared-then, fared_same, fared_steady}
use Rattle.tip_array.specs.Steps.{FormatStep, FitStep, Zeroed, zeros, stays as stays_absent, drops as zero_drops, Joins, joins, stays, drops, Updated, WriteStep, Refills, refills, Refilled, RebuildStep, PullStep}
use Rattle.tip_array.specs.Keeping.{NoneTurnsBlank, NoneTurnsHeld, NoneDrops, NoneBlank, OnlyReads, OnlyPuts, OnlyRestores, OnlyFormats, OnlyPulls, OnlyFits}
use Rattle.tip_array.proofs.Stepping.{is_blank_or, place_low, HeldBefore, pull_kept_before, fit_kept_before}

module _ {E : Type 0} where
  -- a strip that is blank was blank before
  pub fares_blank : {s : Bool} {a b : Strip E} → Fares s a b → b ≡ blank → a ≡ blank
  fares_blank (stays_same e) is = sym e ∙ is
  fares_blank (drops_out f e) is = absurd (cc)

  pub fares_on : {s : Bool} {a b : Strip E} → Fares s a b → is_held b ≡ true → is_held a ≡ true
  fares_on (stays_same e) is = ap is_held (sym e) ∙ is
  fares_on {s} {a} {b} (drops_out f e) is = let k : is_held b ≡ false = ap is_held e in absurd (cc)

  fares_absent : {s : Bool} {a b : Strip E} → s ≡ true → Fares s a b → b ≡ absent → a ≡ absent
  fares_absent t (stays_same e) is = sym e ∙ is
  fares_absent t (drops_out f e) is = absurd (cc)

  fared_blank : {v w : Meaning E} → Fared v w → NoneTurnsBlank v w
  fared_blank h i c is = fares_blank (h.strips i c) is

  fared_on : {v w : Meaning E} → Fared v w → NoneTurnsHeld v w
  fared_on h i c is = fares_on (h.strips i c) is

  fared_absent : {v w : Meaning E} → v.steady ≡ true → Fared v w → NoneDrops v w
  fared_absent t h i c is = fares_absent t (h.strips i c) is

  pulled_fares : {v w : Meaning E} {d : ℕ} → Pulled v w d → (i c : ℕ) → (w.strip i c ≡ absent) ⊎ Fares v.steady (v.strip i c) (w.strip i c)
  pulled_fares {v} {w} {d} h i c =
      ⊎_elim
      (λ (e : v.device i c ≡ d). ⊎_elim
      (λ (past : v.prime < d). inr (stays_same ((h.beyond past).strip i c)))
      (λ (low : d ≤ v.prime). inl (h.gone low i c e))
      (cases_lt v.prime d))
      (λ (e : v.device i c ≢ d). inr (h.others i c e))
      (cases_eq (v.device i c) d)

  absent_not_blank : (s : Strip E) → s ≡ absent → s ≡ blank → ⊥
  absent_not_blank s e f = cc

  held_from : (s : Strip E) → is_held s ≡ true → (es : List E) × (s ≡ held es)
  held_from (held es) e = (es, refl)
  held_from blank e = absurd (cc)
  held_from absent e = absurd (cc)

  before_on : (v w : Meaning E) → Sound w → HeldBefore v w → NoneTurnsHeld v w
  before_on v w sound h i c is =
      let s = held_from (w.strip i c) is in
      ap is_held (h i c s.0 (within_of i c s.0 s.1) s.1)
    where
      within_of : (i c : ℕ) (es : List E) → w.strip i c ≡ held es → Within w i c
      within_of i c es e = record {
        stripe = ⊎_elim (λ (l : i < w.stripes). l) (λ (p : w.stripes ≤ i). let gone = sound.outside i c (λ k. omega (arith, k.stripe)) in absurd (grind (arith, gone, e))) (cases_lt i w.stripes);
        column = ⊎_elim (λ (l : c < w.prime + 1). omega arith) (λ (p : w.prime + 1 ≤ c). let gone = sound.outside i c (λ k. omega (arith, k.column)) in absurd (grind (arith, gone, e))) (cases_lt c (w.prime + 1));
      }

module _ {E : Type 0} where
  pull_blank : {v w : Meaning E} {d : ℕ} (o : Result (Unit {0}) Stop) → PullStep v w d o → NoneTurnsBlank v w
  pull_blank {v} {w} (Ok a) h i c is = ⊎_elim (λ gone. absurd (absent_not_blank (w.strip i c) gone is)) (λ f. fares_blank f is) (pulled_fares h.pulled i c)
  pull_blank (Err s) h i c is = fared_blank (fared_same h.rests.0) i c is

module _ {E : Type 0} {none : E} {join : E → E → E} (laws : Laws none join) where
  joins_blank : {changes : ℕ → Bool} {x : E} {s : Bool} {a b : Strip E} → Joins none join changes x s a b → b ≡ blank → a ≡ blank
  joins_blank (joins es fs is to n h) e = absurd (cc)
  joins_blank (stays out same) e = sym same ∙ e
  joins_blank (drops f to) e = absurd (cc)

  joins_on : {changes : ℕ → Bool} {x : E} {s : Bool} {a b : Strip E} → Joins none join changes x s a b → is_held b ≡ true → is_held a ≡ true
  joins_on (joins es fs is to n h) e = ap is_held is
  joins_on (stays out same) e = ap is_held (sym same) ∙ e
  joins_on {changes} {x} {s} {a} {b} (drops f to) e = let k : is_held b ≡ false = ap is_held to in absurd (cc)

  joins_absent : {changes : ℕ → Bool} {x : E} {s : Bool} {a b : Strip E} → s ≡ true → Joins none join changes x s a b → b ≡ absent → a ≡ absent
  joins_absent t (joins es fs is to n h) e = absurd (cc)
  joins_absent t (stays out same) e = sym same ∙ e
  joins_absent t (drops f to) e = absurd (cc)

  updated_keeps : {v w : Meaning E} {i : ℕ} {changes : ℕ → ℕ → Bool} {x : E} → Updated none join v w i changes x → NoneTurnsBlank v w × NoneTurnsHeld v w × (v.steady ≡ true → NoneDrops v w)
  updated_keeps {v} {w} {i} h = (
    (λ j c is. ⊎_elim (λ (e : j ≡ i). rw e (joins_blank (h.stripe c) (subst (λ k. w.strip k c ≡ blank) e is))) (λ (ne : j ≢ i). fares_blank (h.others j c ne) is) (cases_eq j i)),
    (λ j c is. ⊎_elim (λ (e : j ≡ i). rw e (joins_on (h.stripe c) (subst (λ k. is_held (w.strip k c) ≡ true) e is))) (λ (ne : j ≢ i). fares_on (h.others j c ne) is) (cases_eq j i)),
    λ t j c is. ⊎_elim (λ (e : j ≡ i). rw e (joins_absent t (h.stripe c) (subst (λ k. w.strip k c ≡ absent) e is))) (λ (ne : j ≢ i). fares_absent t (h.others j c ne) is) (cases_eq j i),
  )

  pub write_keeps : {v w : Meaning E} {i n work : ℕ} {e : E} (o : Result ℕ Stop) → listed v.prime ≡ true → WriteStep none join v w i n e work o → OnlyPuts v w
  write_keeps {v} {w} {i} {n} (Ok m) t h =
      let found = (numbering h.u.prime (rw h.fared.kept.prime t)).found n (rw h.fared.kept.prime (place_low laws h.stops)) in
      let k = updated_keeps (h.updated found.0 found.1 found.2) in
      ((λ j c is. fared_blank h.fared j c (k.0 j c is)), (λ j c is. fared_on h.fared j c (k.1 j c is)), λ s j c is. fared_absent s h.fared j c (k.2 (h.fared.kept.steady ∙ s) j c is))
  write_keeps (Err s) t h =
      let f = fared-then h.fared (fared_same h.rests.0) in
      (fared_blank f, fared_on f, λ t. fared_absent t f)

  refills_not : {u : Meaning E} {i c : ℕ} (s : Strip E) → Refills none join u i c s → s ≡ blank → ⊥
  refills_not s (refills es to n h) e = absurd (cc)
  refills_not s (drops f to) e = absurd (cc)

  refills_steady : {u : Meaning E} {i c : ℕ} (s : Strip E) → u.steady ≡ true → Refills none join u i c s → s ≡ absent → ⊥
  refills_steady s t (refills es to n h) e = absurd (cc)
  refills_steady s t (drops f to) e = absurd (cc)

  refilled_keeps : {v w : Meaning E} {i : ℕ} → Refilled none join v w i → NoneTurnsBlank v w × (v.steady ≡ true → NoneDrops v w)
  refilled_keeps {v} {w} {i} h = (
    (λ j c is. ⊎_elim
        (λ (e : j ≡ i). ⊎_elim (λ (b : v.strip i c ≡ blank). rw e b) (λ (b : v.strip i c ≢ blank). fares_blank (h.others j c (λ _. b)) is) (is_blank_or (v.strip i c)))
        (λ (ne : j ≢ i). fares_blank (h.others j c (λ e. absurd (ne e))) is) (cases_eq j i)),
    λ t j c is. ⊎_elim
        (λ (e : j ≡ i). ⊎_elim (λ (b : v.strip i c ≡ blank). absurd (refills_steady (w.strip i c) t (h.blanks c b) (subst (λ k. w.strip k c ≡ absent) e is))) (λ (b : v.strip i c ≢ blank). fares_absent t (h.others j c (λ _. b)) is) (is_blank_or (v.strip i c)))
        (λ (ne : j ≢ i). fares_absent t (h.others j c (λ e. absurd (ne e))) is) (cases_eq j i),
  )

  rebuild_keeps : {v w : Meaning E} {i work : ℕ} (o : Result ℕ Stop) → RebuildStep none join v w i work o → NoneTurnsBlank v w × (v.steady ≡ true → NoneDrops v w)
  rebuild_keeps (Ok m) h = let k = refilled_keeps h.refilled in ((λ j c is. fared_blank h.fared j c (k.0 j c is)), λ s j c is. fared_absent s h.fared j c (k.1 (h.fared.kept.steady ∙ s) j c is))
  rebuild_keeps (Err s) h = let f = fared-then h.fared (fared_same h.rests.0) in (fared_blank f, λ t. fared_absent t f)

  refilled_none : {u w : Meaning E} {i : ℕ} → Refilled none join u w i → NoneBlank w i
  refilled_none {u} {w} {i} h c is =
      ⊎_elim
      (λ (b : u.strip i c ≡ blank). refills_not (w.strip i c) (h.blanks c b) is)
      (λ (b : u.strip i c ≢ blank). b (fares_blank (h.others i c (λ _. b)) is))
      (is_blank_or (u.strip i c))

  -- what each call keeps
  pub reads_keep : {v w : Meaning E} → Fared v w → OnlyReads v w
  reads_keep f = (fared_blank f, fared_on f, λ t. fared_steady t f)

  pub rebuild_restores : {v w : Meaning E} {i work : ℕ} (r : Result ℕ Stop) → RebuildStep none join v w i work r → OnlyRestores v w i r
  rebuild_restores (Ok m) h = let k = rebuild_keeps (Ok m) h in (k.0, k.1, refilled_none h.refilled)
  rebuild_restores (Err s) h = let k = rebuild_keeps (Err s) h in (k.0, k.1, tt)

  pub pull_keeps : {v w : Meaning E} {d : ℕ} (r : Result (Unit {0}) Stop) → Sound w → PullStep v w d r → OnlyPulls v w
  pull_keeps {v} {w} r sound h = (pull_blank r h, before_on v w sound (pull_kept_before laws r h).1)

  pub fit_keeps : {v w : Meaning E} {d : ℕ} (r : Result Bool Stop) → Sound w → FitStep v w d r → OnlyFits v w
  fit_keeps {v} {w} r sound h = before_on v w sound (fit_kept_before laws r h).1

module _ {E : Type 0} {none : E} where
  zeroed_not : {p : ℕ} {steady : Bool} (a b : Strip E) → Zeroed none p steady a b → b ≡ blank → ⊥
  zeroed_not a b (zeros es h to sized all) is = cc
  zeroed_not a b (stays_absent h gone) is = cc
  zeroed_not a b (zero_drops f gone) is = cc

  zeroed_absent : {p : ℕ} {steady : Bool} (a b : Strip E) → steady ≡ true → Zeroed none p steady a b → b ≡ absent → a ≡ absent
  zeroed_absent a b t (zeros es h to sized all) is = absurd (cc)
  zeroed_absent a b t (stays_absent h gone) is = h
  zeroed_absent a b t (zero_drops f gone) is = absurd (cc)

  pub format_keeps : {v w : Meaning E} {work : ℕ} (o : Result ℕ Stop) → FormatStep none v w work o → OnlyFormats v w o
  format_keeps {v} {w} (Ok n) h = ((λ t i c. zeroed_absent (v.strip i c) (w.strip i c) t (h.strips i c)), λ i c. zeroed_not (v.strip i c) (w.strip i c) (h.strips i c))
  format_keeps (Err s) h = ((λ t. fared_absent t (fared_same h.rests.0)), tt)

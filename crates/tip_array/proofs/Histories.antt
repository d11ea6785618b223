-- A history with one call more.
use Rattle.std.proofs.Common.{◌≡◌, ℕ, ◌+◌, ◌<◌, ◌≤◌, Bool, true, false, ◌||◌, Ok, List, [], ◌∷◌, ◌++◌, length, map, take, slice_index_or, sym, refl, ap, subst, ◌∙◌}
use Rattle.std.proofs.lemmas.List.{take_more, take_all}
use Rattle.tip_element.specs.Laws.{Laws}
use Rattle.tip_shelf.specs.Meaning.{Meaning, Sound}
use Rattle.tip_solve.specs.Solving.{work_in, Cleared}
use Rattle.tip_array.specs.Steps.{Outcome, FormatStep, Step}
use Rattle.tip_array.specs.Runs.{Event, Run, meaning_after, AllLent, WorkStep, clears, any_clears, WorkLeft, History, Ran, FormattedRun}
use Rattle.tip_array.specs.declared.calls.Call.{Call}
use Rattle.tip_array.proofs.Soundness.{every_run_on, every_run_sound}
use Rattle.tip_array.proofs.Working.{step_left, left-then, cleared-then}

module _ {E : Type 0} where
  run_more : (none : E) (join : E → E → E) (v : Meaning E) (h : List (Event E)) (x : Event E) → Run none join v h → Step none join (meaning_after v h) x.after x.call x.work x.outcome → Run none join v (h ++ x ∷ [])
  run_more none join v [] x r s = (s, tt)
  run_more none join v (y ∷ h) x r s = (r.0, run_more none join y.after h x r.1 s)

  after_more : (v : Meaning E) (h : List (Event E)) (x : Event E) → meaning_after v (h ++ x ∷ []) ≡ x.after
  after_more v [] x = refl
  after_more v (y ∷ h) x = after_more y.after h x

  sizes_more : (work : ℕ) (h : List (Event E)) (x : Event E) → AllLent work h → x.work ≡ work → AllLent work (h ++ x ∷ [])
  sizes_more work [] x l e = (e, tt)
  sizes_more work (y ∷ h) x l e = (l.0, sizes_more work h x l.1 e)

  map_more : {B : Type 0} (f : Event E → B) (h : List (Event E)) (x : Event E) → map f (h ++ x ∷ []) ≡ map f h ++ f x ∷ []
  map_more f [] x = refl
  map_more f (y ∷ h) x = ap (λ t. f y ∷ t) (map_more f h x)

  any_more : (h : List (Event E)) (x : Event E) → any_clears (h ++ x ∷ []) ≡ (any_clears h || clears x.call x.outcome)
  any_more [] x = last (clears x.call x.outcome)
    where
      last : (b : Bool) → (b || false) ≡ b
      last true = refl
      last false = refl
  any_more (y ∷ h) x = either (clears y.call y.outcome) (any_clears h) (clears x.call x.outcome) (any_more h x)
    where
      either : (b d e : Bool) {c : Bool} → c ≡ (d || e) → (b || c) ≡ ((b || d) || e)
      either true d e is = refl
      either false d e is = is

module _ {E : Type 0} {none : E} {join : E → E → E} where
  pub none_yet : (v : Meaning E) (xs : List E) → History none join v v [] xs xs []
  none_yet v xs = record { events = []; asked = refl; told = refl; sizes = tt; ran = tt; ends = refl; work = refl }

  pub one_more : {v u w : Meaning E} {calls : List (Call E)} {xs ys zs : List E} {outcomes : List (Outcome E)} (call : Call E) (o : Outcome E) → History none join v u calls xs ys outcomes → Step none join u w call (length xs) o → WorkStep none v.prime call ys zs o → History none join v w (calls ++ call ∷ []) xs zs (outcomes ++ o ∷ [])
  one_more {v} {u} {w} {calls} {xs} {ys} {zs} {outcomes} call o h s left =
      let x : Event E = record { call = call; work = length xs; outcome = o; after = w } in
      record {
        events = h.events ++ x ∷ [];
        asked = map_more (λ (x : Event E). x.call) h.events x ∙ ap (λ t. t ++ call ∷ []) h.asked;
        told = map_more (λ (x : Event E). x.outcome) h.events x ∙ ap (λ t. t ++ o ∷ []) h.told;
        sizes = sizes_more (length xs) h.events x h.sizes refl;
        ran = run_more none join v h.events x h.ran (subst (λ m. Step none join m w call (length xs) o) (sym h.ends) s);
        ends = after_more v h.events x;
        work = subst (λ b. WorkLeft none v.prime b xs zs) (sym (any_more h.events x)) (left-then none v.prime (any_clears h.events) (clears call o) xs ys zs h.work (step_left none v.prime call ys zs o left));
      }

  pub all_ran : Laws none join → {v w : Meaning E} {calls : List (Call E)} {xs ys : List E} {outcomes : List (Outcome E)} → Sound v → History none join v w calls xs ys outcomes → Ran none join v w calls xs ys outcomes
  all_ran laws {v} sound h = record {
    history = h;
    sound = λ b mirrors. every_run_on laws v b sound mirrors h.events h.ran;
    fresh = λ u size out sound format. every_run_sound laws u v size out sound format h.events h.ran;
  }

  -- a turn of a loop over the calls, and its end
  pub turn : {v u w : Meaning E} (calls : List (Call E)) {xs ys zs : List E} {outcomes : List (Outcome E)} (i : ℕ) (call : Call E) (o : Outcome E) → i < length calls → call ≡ slice_index_or calls i call → length ys ≡ length xs → u.prime ≡ v.prime → History none join v u (take i calls) xs ys outcomes → Step none join u w call (length ys) o → WorkStep none u.prime call ys zs o → History none join v w (take (i + 1) calls) xs zs (outcomes ++ o ∷ [])
  turn {v} {u} {w} calls {xs} {ys} {zs} {outcomes} i call o low read same prime h s left =
      let first : take (i + 1) calls ≡ take i calls ++ call ∷ [] = take_more calls i call low ∙ ap (λ d. take i calls ++ d ∷ []) (sym read) in
      rw first (one_more call o h (subst (λ n. Step none join u w call n o) same s) (subst (λ p. WorkStep none p call ys zs o) prime left))

  pub ended : {v w : Meaning E} (calls : List (Call E)) {xs ys : List E} {outcomes : List (Outcome E)} (i : ℕ) → length calls ≤ i → History none join v w (take i calls) xs ys outcomes → History none join v w calls xs ys outcomes
  ended calls i past h = rw (sym (take_all i calls past)) h

  -- a run on a shelf that was formatted
  pub formatted_run : Laws none join → {v u w : Meaning E} {calls : List (Call E)} {xs cleared ys : List E} {out : ℕ} {outcomes : List (Outcome E)} → Sound v → FormatStep none v u (length xs) (Ok out) → Cleared none (work_in v.prime) xs cleared → History none join u w calls cleared ys outcomes → FormattedRun none join v w calls xs ys out outcomes
  formatted_run laws {v} {u} {w} {calls} {xs} {cleared} {ys} {out} {outcomes} sound step work h =
      record { u = u; cleared = cleared; formatted = step; work = work; history = h; sound = every_run_sound laws v u (length xs) out sound step h.events h.ran }

  pub formatted_work : (v : Meaning E) {u w : Meaning E} {calls : List (Call E)} {xs cleared ys : List E} {outcomes : List (Outcome E)} → u.prime ≡ v.prime → Cleared none (work_in v.prime) xs cleared → History none join u w calls cleared ys outcomes → Cleared none (work_in v.prime) xs ys
  formatted_work v {u} {w} {calls} {xs} {cleared} {ys} same work h =
      cleared-then none v.prime (any_clears h.events) xs cleared ys work (subst (λ p. WorkLeft none p (any_clears h.events) cleared ys) same h.work)

-- What calls leave in a work buffer.
use Rattle.std.proofs.Common.{◌≡◌, ℕ, ◌<◌, ◌≤◌, Bool, true, false, ◌||◌, ◌==◌, List, length, Result, Ok, Err, MatchResult, refl, sym, ◌∙◌, subst, arith}
use Rattle.std.proofs.lemmas.Bool.Decides.{nat_tests}
use Rattle.tip_code.specs.Stops.{number}
use Rattle.tip_code.specs.declared.stop.Stop.{Stop}
use Rattle.tip_code.specs.declared.stop.Stop.TheVariants as stop
use Rattle.tip_solve.specs.Solving.{work_in, WorkAfter, Cleared}
use Rattle.tip_array.specs.Steps.{Outcome, FormatStop, too_short}
use Rattle.tip_array.specs.Runs.{WorkStep, passed, clears, WorkLeft}
use Rattle.tip_array.specs.declared.calls.Call.{Call}
use Rattle.tip_array.specs.declared.calls.Call.TheVariants.{Read, Write, Rebuild, Check, Pull, Fit}
use Rattle.tip_shelf.specs.Meaning.{Meaning}

number_most : (s : Stop) → number s ≤ 13
number_most stop.Prime = omega arith
number_most stop.Stripes = omega arith
number_most stop.Length = omega arith
number_most stop.Losses = omega arith
number_most stop.Field = omega arith
number_most stop.Tag = omega arith
number_most stop.Body = omega arith
number_most stop.Room = omega arith
number_most stop.Work = omega arith
number_most stop.Stripe = omega arith
number_most stop.Place = omega arith
number_most stop.Column = omega arith
number_most stop.Lost = omega arith

module _ {E : Type 0} (none : E) (p : ℕ) where
  stop_left : (s : Stop) (xs ys : List E) (b : Bool) → (number s == 13) ≡ b → (number s < 13 → ys ≡ xs) → (number s ≡ 13 → Cleared none (work_in p) xs ys) → WorkLeft none p b xs ys
  stop_left s xs ys true e same cleared = cleared (grind (arith, nat_tests, e))
  stop_left s xs ys false e same cleared = same (grind (arith, nat_tests, e, number_most s))

  after_left : (xs ys : List E) (o : Outcome E) → WorkAfter none (work_in p) xs ys o → WorkLeft none p (passed o) xs ys
  after_left xs ys (Ok a) h = h
  after_left xs ys (Err s) h = stop_left s xs ys (number s == 13) refl h.0 h.1

  pub step_left : (call : Call E) (xs ys : List E) (o : Outcome E) → WorkStep none p call xs ys o → WorkLeft none p (clears call o) xs ys
  step_left (Read i n) xs ys o h = after_left xs ys o h
  step_left (Write i n e) xs ys o h = after_left xs ys o h
  step_left (Rebuild i) xs ys o h = after_left xs ys o h
  step_left (Check i) xs ys o h = h
  step_left (Pull d) xs ys o h = h
  step_left (Fit d) xs ys o h = h

  -- a buffer that was cleared stays so
  pub cleared-then : (b : Bool) (xs ys zs : List E) → Cleared none (work_in p) xs ys → WorkLeft none p b ys zs → Cleared none (work_in p) xs zs
  cleared-then true xs ys zs h k = record { first = k.first; beyond = λ q l. k.beyond q l ∙ h.beyond q l }
  cleared-then false xs ys zs h k = subst (λ ts. Cleared none (work_in p) xs ts) (sym k) h

  pub left-then : (a b : Bool) (xs ys zs : List E) → WorkLeft none p a xs ys → WorkLeft none p b ys zs → WorkLeft none p (a || b) xs zs
  left-then true b xs ys zs h k = cleared-then b xs ys zs h k
  left-then false b xs ys zs h k = subst (λ ts. WorkLeft none p b ts zs) h k

-- the one stop of a format leaves the work buffer as it was
pub format_early : {E : Type 0} {v : Meaning E} {work : ℕ} {s : Stop} → FormatStop v work s → number s < 13
format_early (too_short l) = omega arith

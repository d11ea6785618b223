-- Runs of calls on an array, the scoreboard, and what makes a run sound.
use Rattle.std.specs.Prelude.{◌≡◌, ℕ, ◌<◌, ◌≤◌, Bool, true, false, cond, ◌&&◌, ◌||◌, ◌↔◌, List, [], ◌∷◌, ◌++◌, length, map, Ok, Err, ◌==◌, is_ok}
use Rattle.tip_code.specs.Encoding.{encoding}
use Rattle.tip_code.specs.Geometry.{places_in}
use Rattle.tip_code.specs.Stops.{number, First}
use Rattle.tip_code.specs.declared.stop.Stop.TheVariants as stop
use Rattle.tip_solve.specs.Solving.{work_in, WorkAfter, Cleared}
use Rattle.tip_shelf.specs.Meaning.{Meaning, Sound}
use Rattle.tip_shelf.specs.Calls.{Same}
use Rattle.tip_gather.specs.Gathering.{outs}
use Rattle.tip_array.specs.Stripes.{HeldAre, Lost}
use Rattle.tip_array.specs.Steps.{Outcome, FormatStop, FormatStep, Step}
use Rattle.tip_array.specs.declared.calls.Call.{Call}
use Rattle.tip_array.specs.declared.calls.Call.TheVariants.{Read, Write, Rebuild, Check, Pull, Fit}
use Rattle.tip_array.specs.declared.calls.Answer.TheVariants as answer
use Rattle.tip_array.specs.declared.run.RunError.{RunError}
use Rattle.tip_array.specs.declared.run.RunError.TheVariants as error

-- THE WORDS OF THE PROMISE
-- A call that gives a stop is refused, any other accepted; stop 13 is refusal for loss.
abbrev pub accepted : {E : Type 0} → Outcome E → Bool
accepted o = is_ok o

abbrev pub IsRefusedForLoss : {E : Type 0} → Outcome E → Type 0
IsRefusedForLoss o = o ≡ Err stop.Lost

-- The outcome is that of an accepted read, with element e.
abbrev pub Gives : {E : Type 0} → Outcome E → E → Type 0
Gives o e = o ≡ Ok (answer.Read e)

-- One call of a run: the call, the length of the work buffer that it was lent, its outcome, and the meaning of the
-- shelf after it.
pub record Event (E : Type 0) : Type 0 where
  pub call : Call E
  pub work : ℕ
  pub outcome : Outcome E
  pub after : Meaning E

-- A run from v: each call takes the shelf as the one before left it.
abbrev pub Run : {E : Type 0} → E → (E → E → E) → Meaning E → List (Event E) → Type 0
Run none join v [] = Unit {0}
Run none join v (x ∷ h) = Step none join v x.after x.call x.work x.outcome × Run none join x.after h

-- The meaning after some calls.
abbrev pub meaning_after : {E : Type 0} → Meaning E → List (Event E) → Meaning E
meaning_after v [] = v
meaning_after v (x ∷ h) = meaning_after x.after h

-- THE SCOREBOARD
-- It shows one element for each stripe and place.
abbrev pub Board : Type 0 → Type 0
Board E = ℕ → ℕ → E

-- With one element set.
abbrev pub with_entry : {E : Type 0} → Board E → ℕ → ℕ → E → Board E
with_entry b i n e = λ j m. cond (j == i && m == n) e (b j m)

-- It is zero after an accepted format.
abbrev pub zero_board : {E : Type 0} → E → Board E
zero_board none i n = none

-- It is fed a call, and whether that was accepted: an accepted write sets its element, and nothing else changes one.
abbrev pub noted : {E : Type 0} → Board E → Call E → Bool → Board E
noted b (Write i n e) true = with_entry b i n e
noted b (Write i n e) false = b
noted b (Read i n) _ = b
noted b (Rebuild i) _ = b
noted b (Check i) _ = b
noted b (Pull d) _ = b
noted b (Fit d) _ = b

-- After some calls.
abbrev pub noted_all : {E : Type 0} → Board E → List (Event E) → Board E
noted_all b [] = b
noted_all b (x ∷ h) = noted_all (noted b x.call (accepted x.outcome)) h

-- Each held strip of each stripe is that column of the encoding of the scoreboard's elements.
pub record Mirrors {E : Type 0} (none : E) (join : E → E → E) (w : Meaning E) (b : Board E) : Type 0 where
  pub stripes : (i : ℕ) → HeldAre none w i (encoding none join w.prime (b i))

-- REFUSALS FOR LOSS
-- A read or write passes stops 9 to 11.
pub record Passes {E : Type 0} (v : Meaning E) (i n work : ℕ) : Type 0 where
  pub enough : work_in v.prime ≤ work
  pub stripe : i < v.stripes
  pub place : n < places_in v.prime

-- A read is refused for loss exactly when it passes stops 9 to 11 and at its end its place is lost; a write only if
-- that is so; a rebuild only if it passes stops 9 and 10 and at its end more than three strips of its stripe are out;
-- no other call.
abbrev pub LossRule : {E : Type 0} → Meaning E → Meaning E → Call E → ℕ → Outcome E → Type 0
LossRule v w (Read i n) work o = IsRefusedForLoss o ↔ (Passes v i n work × Lost w i n)
LossRule v w (Write i n e) work o = IsRefusedForLoss o → Passes v i n work × Lost w i n
LossRule v w (Rebuild i) work o = IsRefusedForLoss o → (work_in v.prime ≤ work) × (i < v.stripes) × (3 < outs w i)
LossRule v w (Check i) work o = IsRefusedForLoss o → ⊥
LossRule v w (Pull d) work o = IsRefusedForLoss o → ⊥
LossRule v w (Fit d) work o = IsRefusedForLoss o → ⊥

-- THE PROMISE A run from v with history h is sound, where b is the scoreboard at its start, however the history is
-- split into past, a call, and the rest: an accepted read gave what the scoreboard showed; refusals for loss keep their
-- rule; and after every past the shelf mirrors the scoreboard.
pub record SoundRun {E : Type 0} (none : E) (join : E → E → E) (v : Meaning E) (b : Board E) (h : List (Event E)) : Type 0 where
  pub reads : (past rest : List (Event E)) (x : Event E) → h ≡ past ++ x ∷ rest
      → (i n : ℕ) (e : E) → x.call ≡ Read i n → Gives x.outcome e → e ≡ noted_all b past i n
  pub losses : (past rest : List (Event E)) (x : Event E) → h ≡ past ++ x ∷ rest
      → LossRule (meaning_after v past) x.after x.call x.work x.outcome
  pub mirrors : (past rest : List (Event E)) → h ≡ past ++ rest
      → Mirrors none join (meaning_after v past) (noted_all b past)

-- Every run from v is sound, where b is the scoreboard there.
abbrev pub EveryRunFrom : {E : Type 0} → E → (E → E → E) → Meaning E → Board E → Type 0
EveryRunFrom {E} none join v b = (h : List (Event E)) → Run none join v h → SoundRun none join v b h

-- That is so from every shelf that mirrors a scoreboard: an array that was opened and not formatted goes on from what
-- it held.
abbrev pub EveryRunOn : {E : Type 0} → E → (E → E → E) → Type 0
EveryRunOn {E} none join =
    (v : Meaning E) (b : Board E) → Sound v → Mirrors none join v b → EveryRunFrom none join v b

-- And so from every freshly formatted shelf, with the scoreboard that is zero at its start.
abbrev pub EveryRun : {E : Type 0} → E → (E → E → E) → Type 0
EveryRun {E} none join = (v u : Meaning E) (work out : ℕ) → Sound v → FormatStep none v u work (Ok out)
    → EveryRunFrom none join u (zero_board none)

-- THE WORK BUFFER
-- What a call leaves in the work buffer that it was lent, which was xs and is ys. Check, pull and fit leave it alone.
abbrev pub WorkStep : {E : Type 0} → E → ℕ → Call E → List E → List E → Outcome E → Type 0
WorkStep none p (Read i n) xs ys o = WorkAfter none (work_in p) xs ys o
WorkStep none p (Write i n e) xs ys o = WorkAfter none (work_in p) xs ys o
WorkStep none p (Rebuild i) xs ys o = WorkAfter none (work_in p) xs ys o
WorkStep none p (Check i) xs ys o = ys ≡ xs
WorkStep none p (Pull d) xs ys o = ys ≡ xs
WorkStep none p (Fit d) xs ys o = ys ≡ xs

-- The call passed stops 9 to 12.
abbrev pub passed : {E : Type 0} → Outcome E → Bool
passed (Ok a) = true
passed (Err s) = number s == 13

-- The call cleared the first elements of its work buffer: it has one, and passed stops 9 to 12.
abbrev pub clears : {E : Type 0} → Call E → Outcome E → Bool
clears (Read i n) o = passed o
clears (Write i n e) o = passed o
clears (Rebuild i) o = passed o
clears (Check i) o = false
clears (Pull d) o = false
clears (Fit d) o = false

-- One of the calls did.
abbrev pub any_clears : {E : Type 0} → List (Event E) → Bool
any_clears [] = false
any_clears (x ∷ h) = clears x.call x.outcome || any_clears h

-- So several calls leave it: the first elements are zero and those beyond as they were, or all is as it was.
abbrev pub WorkLeft : {E : Type 0} → E → ℕ → Bool → List E → List E → Type 0
WorkLeft none p true xs ys = Cleared none (work_in p) xs ys
WorkLeft none p false xs ys = ys ≡ xs

-- LISTS OF CALLS
-- Each call of a run was lent a work buffer of this length.
abbrev pub AllLent : {E : Type 0} → ℕ → List (Event E) → Type 0
AllLent work [] = Unit {0}
AllLent work (x ∷ h) = (x.work ≡ work) × AllLent work h

-- A run of exactly these calls, with these outcomes, led from v to w. All were lent one work buffer, which was xs and
-- is ys.
pub record History {E : Type 0} (none : E) (join : E → E → E) (v w : Meaning E)
    (calls : List (Call E)) (xs ys : List E) (outcomes : List (Outcome E)) : Type 0 where
  pub events : List (Event E)
  pub asked : map (λ (x : Event E). x.call) events ≡ calls
  pub told : map (λ (x : Event E). x.outcome) events ≡ outcomes
  pub sizes : AllLent (length xs) events
  pub ran : Run none join v events
  pub ends : meaning_after v events ≡ w
  pub work : WorkLeft none v.prime (any_clears events) xs ys

-- The same; and whatever scoreboard the shelf mirrored at v, the run is sound with it. Where the shelf was freshly
-- formatted, that is the scoreboard that is zero.
pub record Ran {E : Type 0} (none : E) (join : E → E → E) (v w : Meaning E)
    (calls : List (Call E)) (xs ys : List E) (outcomes : List (Outcome E)) : Type 0 where
  pub history : History none join v w calls xs ys outcomes
  pub sound : (b : Board E) → Mirrors none join v b → SoundRun none join v b history.events
  pub fresh : (u : Meaning E) (size out : ℕ) → Sound u → FormatStep none u v size (Ok out)
      → SoundRun none join v (zero_board none) history.events

-- A shelf was formatted, and the calls made on it: at u it had been formatted, with so many strips out, and the work
-- buffer was then cleared. The run is sound, with the scoreboard that is zero.
pub record FormattedRun {E : Type 0} (none : E) (join : E → E → E) (v w : Meaning E)
    (calls : List (Call E)) (xs ys : List E) (out : ℕ) (outcomes : List (Outcome E)) : Type 0 where
  pub u : Meaning E
  pub cleared : List E
  pub formatted : FormatStep none v u (length xs) (Ok out)
  pub work : Cleared none (work_in v.prime) xs cleared
  pub history : History none join u w calls cleared ys outcomes
  pub sound : SoundRun none join u (zero_board none) history.events

-- Nothing was formatted, no call was made, and nothing changed: there was no memory, or the format is refused by this
-- stop.
abbrev pub RunRefused : {E : Type 0} → Meaning E → Meaning E → ℕ → RunError → Type 0
RunRefused v w work (error.NoMemory e) = Same v w
RunRefused v w work (error.Stopped s) = Same v w × First (FormatStop v work) s

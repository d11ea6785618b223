-- The calls of a shelf that were made: s is the shelf before, and t after.
use Rattle.std.specs.Prelude.{◌≡◌, ℕ, ◌≤◌, Bool, List, [], ◌∷◌, length, All, Result}
use Rattle.tip_shelf.specs.Meaning.{Meaning}
use Rattle.tip_shelf.specs.Calls.{Told, Got, Put, Erased, Restored}
use Rattle.tip_shelf.specs.Service.{Pulled, Fitted}
use Rattle.tip_shelf.specs.declared.shelf.Out.{Out}
use Rattle.tip_shelf.specs.declared.shelf.State.{State}

-- A call of a shelf, with its arguments and its answer: i is a stripe, c a column, r a row, d a device, a the answer.
pub data ShelfCall (E : Type 0) : Type 0 where
  state_call : (i c : ℕ) (a : State) → ShelfCall E
  get_call : (i c r : ℕ) (a : Result E Out) → ShelfCall E
  put_call : (i c r : ℕ) (e : E) (a : Result (Unit {0}) Out) → ShelfCall E
  erase_call : (i c : ℕ) (a : Result (Unit {0}) Out) → ShelfCall E
  restore_call : (i c : ℕ) (es : List E) (a : Result (Unit {0}) Out) → ShelfCall E
  pull_call : (d : ℕ) → ShelfCall E
  fit_call : (d : ℕ) (a : Bool) → ShelfCall E

-- What every shelf promises of a call: v is the meaning before it, and w after it.
abbrev pub Promised : {E : Type 0} → Meaning E → ShelfCall E → Meaning E → Type 0
Promised v (state_call i c a) w = Told v w i c a
Promised v (get_call i c r a) w = Got v w i c r a
Promised v (put_call i c r e a) w = Put v w i c r e a
Promised v (erase_call i c a) w = Erased v w i c a
Promised v (restore_call i c es a) w = Restored v w i c es a
Promised v (pull_call d) w = Pulled v w d
Promised v (fit_call d a) w = Fitted v w d a

-- The call was made. It did to the meaning what every shelf promises, and to the shelf what this one performs.
pub record Performed {S E : Type 0} (meaning : S → Meaning E) (performs : S → ShelfCall E → S → Type 0)
    (s : S) (k : ShelfCall E) (t : S) : Type 0 where
  pub act : Promised (meaning s) k (meaning t)
  pub own : performs s k t

-- These calls, one after another, lead from s to t.
unfoldable pub Series : {S E : Type 0} → (S → ShelfCall E → S → Type 0) → S → List (ShelfCall E) → S → Type 0
Series performs s [] t = t ≡ s
Series {S} performs s (k ∷ ks) t = (u : S) × performs s k u × Series performs u ks t

-- At most n calls were made, each of this kind, and one after another they lead from s to t.
pub record AtMost {S E : Type 0} (n : ℕ) (Kind : ShelfCall E → Type 0) (performs : S → ShelfCall E → S → Type 0)
    (s t : S) : Type 0 where
  pub calls : List (ShelfCall E)
  pub few : length calls ≤ n
  pub each : All Kind calls
  pub series : Series performs s calls t

-- The fault shelf: what it has, and what its calls do to that.
use Rattle.std.specs.Prelude.{◌≡◌, ℕ, ◌+◌, ◌-◌, ◌^◌, ◌<◌, ◌≤◌, false, min, List, length, map}
use Rattle.tip_code.specs.declared.stop.Stop.{Stop}
use Rattle.tip_code.specs.declared.stop.Stop.TheVariants as stop
use Rattle.tip_fault.specs.Plans.{losses_in, devices_for}
use Rattle.tip_fault.specs.declared.fault.Fault.{Fault}
use Rattle.tip_fault.specs.declared.losses.Loss.{Loss}
use Rattle.tip_shelf.specs.Calls.{InRange, Loads}
use Rattle.tip_shelf.specs.Performing.{ShelfCall, get_call, put_call, erase_call, restore_call, pull_call, Series}
use Rattle.tip_shelf.specs.Meaning.{Meaning, Within}

-- The shelf below, the planned losses in their order, and how many accesses were counted.
abbrev pub below_of : {S : Type 0} → Fault S → S
below_of s = s.below

abbrev pub losses_of : {S : Type 0} → Fault S → List Loss
losses_of s = losses_in s.losses

abbrev pub accesses_of : {S : Type 0} → Fault S → ℕ
accesses_of s = s.accesses

-- The same three, with what the shelf below means in its place.
pub record Faults (E : Type 0) : Type 0 where
  pub below : Meaning E
  pub planned : List Loss
  pub accesses : ℕ

abbrev pub faults_of : {S E : Type 0} → (S → Meaning E) → Fault S → Faults E
faults_of meaning s = record { below = meaning (below_of s); planned = losses_of s; accesses = accesses_of s }

-- A fault shelf means what the shelf below does, but it is never steady.
abbrev pub unsteady : {E : Type 0} → Meaning E → Meaning E
unsteady v = record v { steady = false }

abbrev pub meaning_of : {S E : Type 0} → (S → Meaning E) → Fault S → Meaning E
meaning_of meaning s = unsteady (meaning (below_of s))

-- When a loss of device d is refused: sixteen are planned already; there is no such device.
pub data PlanStop {E : Type 0} (f : Faults E) (d : ℕ) : Stop → Type 0 where
  full : 16 ≤ length f.planned → PlanStop f d stop.Losses
  no_device : f.below.prime < d → PlanStop f d stop.Column

-- The number of the access that comes after n others. The last number stays.
abbrev pub next_access : ℕ → ℕ
next_access n = min (n + 1) (2 ^ 32 - 1)

-- The pulls that are planned for access n, in the order of the plan.
abbrev pub pulls_for : {E : Type 0} → ℕ → List Loss → List (ShelfCall E)
pulls_for n ls = map pull_call (devices_for n ls)

-- A call that is an access where it is in range: it is counted, each device that is planned for its number is pulled,
-- and then the call goes down. Out of range nothing is called.
pub record Access {S E : Type 0} (performs : S → ShelfCall E → S → Type 0)
    (s : Fault S) (Range : Type 0) (k : ShelfCall E) (t : Fault S) : Type 0 where
  pub planned : losses_of t ≡ losses_of s
  pub counted : Range → accesses_of t ≡ next_access (accesses_of s)
  pub down :
      Range →
      (m : S) × Series performs (below_of s) (pulls_for (accesses_of t) (losses_of s)) m × performs m k (below_of t)
  pub beyond : (Range → ⊥) → t ≡ s

-- A call that is no access goes down alone.
pub record Passed {S E : Type 0} (performs : S → ShelfCall E → S → Type 0)
    (s : Fault S) (k : ShelfCall E) (t : Fault S) : Type 0 where
  pub planned : losses_of t ≡ losses_of s
  pub accesses : accesses_of t ≡ accesses_of s
  pub down : performs (below_of s) k (below_of t)

-- What a call of a fault shelf is, by the calls of the shelf below. Asking for a state, a pull and a fit are no
-- accesses.
abbrev pub Faulted :
    {S E : Type 0} →
    (S → Meaning E) →
    (S → ShelfCall E → S → Type 0) →
    Fault S →
    ShelfCall E →
    Fault S →
    Type 0
Faulted meaning performs s (get_call i c r a) t =
    Access performs s (InRange (meaning (below_of s)) i c r) (get_call i c r a) t
Faulted meaning performs s (put_call i c r e a) t =
    Access performs s (InRange (meaning (below_of s)) i c r) (put_call i c r e a) t
Faulted meaning performs s (erase_call i c a) t =
    Access performs s (Within (meaning (below_of s)) i c) (erase_call i c a) t
Faulted meaning performs s (restore_call i c es a) t =
    Access performs s (Loads (meaning (below_of s)) i c es) (restore_call i c es a) t
Faulted meaning performs s k t = Passed performs s k t

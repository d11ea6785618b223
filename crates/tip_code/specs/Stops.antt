-- Stops: the numbered refusals of the whole product, and which of several is given.
use Rattle.std.specs.Prelude.{ℕ, ◌<◌, Ok, Err, Result}
use Rattle.tip_code.specs.declared.stop.Stop.{Stop}
use Rattle.tip_code.specs.declared.stop.Stop.TheVariants as stop

-- The number by which users know a stop. Lower numbers are checked first.
abbrev pub number : Stop → ℕ
number stop.Prime = 1
number stop.Stripes = 2
number stop.Length = 3
number stop.Losses = 4
number stop.Field = 5
number stop.Tag = 6
number stop.Body = 7
number stop.Room = 8
number stop.Work = 9
number stop.Stripe = 10
number stop.Place = 11
number stop.Column = 12
number stop.Lost = 13

-- Of the stops that fit a call, s is the first: it fits, and none with a lower number does.
pub record First (fits : Stop → Type 0) (s : Stop) : Type 0 where
  pub this : fits s
  pub lower : (t : Stop) → number t < number s → fits t → ⊥

-- A call that may give the stops `fits` is refused with the first that fits, and accepted where none does.
abbrev pub Stopped : {A : Type 0} → (Stop → Type 0) → Result A Stop → Type 0
Stopped fits (Ok a) = (t : Stop) → fits t → ⊥
Stopped fits (Err s) = First fits s

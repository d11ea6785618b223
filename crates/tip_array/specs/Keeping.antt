-- What each call keeps of the states of strips: v is the meaning of the shelf before the call, w after it, and o the
-- result.
use Rattle.std.specs.Prelude.{◌≡◌, ◌≢◌, ℕ, true, Result, OnOk}
use Rattle.tip_shelf.specs.Meaning.{blank, absent, Meaning}
use Rattle.tip_shelf.specs.Calls.{Same, is_held}
use Rattle.tip_array.specs.Steps.{Outcome}
use Rattle.tip_array.specs.declared.calls.Call.{Call}
use Rattle.tip_array.specs.declared.calls.Call.TheVariants.{Read, Write, Rebuild, Check, Pull, Fit}

-- No strip turned blank.
abbrev pub NoneTurnsBlank : {E : Type 0} → Meaning E → Meaning E → Type 0
NoneTurnsBlank v w = (i c : ℕ) → w.strip i c ≡ blank → v.strip i c ≡ blank

-- No strip turned held.
abbrev pub NoneTurnsHeld : {E : Type 0} → Meaning E → Meaning E → Type 0
NoneTurnsHeld v w = (i c : ℕ) → is_held (w.strip i c) ≡ true → is_held (v.strip i c) ≡ true

-- No strip turned absent.
abbrev pub NoneDrops : {E : Type 0} → Meaning E → Meaning E → Type 0
NoneDrops v w = (i c : ℕ) → w.strip i c ≡ absent → v.strip i c ≡ absent

-- No strip of the stripe is blank.
abbrev pub NoneBlank : {E : Type 0} → Meaning E → ℕ → Type 0
NoneBlank w i = (c : ℕ) → w.strip i c ≢ blank

-- A read or a check: no strip turned blank or held, and on a steady shelf none changed.
abbrev pub OnlyReads : {E : Type 0} → Meaning E → Meaning E → Type 0
OnlyReads v w = NoneTurnsBlank v w × NoneTurnsHeld v w × (v.steady ≡ true → Same v w)

-- A write: no strip turned blank or held, and on a steady shelf none turned absent.
abbrev pub OnlyPuts : {E : Type 0} → Meaning E → Meaning E → Type 0
OnlyPuts v w = NoneTurnsBlank v w × NoneTurnsHeld v w × (v.steady ≡ true → NoneDrops v w)

-- A rebuild of stripe i: no strip turned blank, and on a steady shelf none turned absent. Accepted, it leaves none of
-- the stripe blank.
abbrev pub OnlyRestores : {E A R : Type 0} → Meaning E → Meaning E → ℕ → Result A R → Type 0
OnlyRestores v w i o = NoneTurnsBlank v w × (v.steady ≡ true → NoneDrops v w) × OnOk o (NoneBlank w i)

-- A format: on a steady shelf no strip turned absent. Accepted, it leaves none blank.
abbrev pub OnlyFormats : {E A R : Type 0} → Meaning E → Meaning E → Result A R → Type 0
OnlyFormats v w o = (v.steady ≡ true → NoneDrops v w) × OnOk o ((i : ℕ) → NoneBlank w i)

-- A pull: no strip turned blank or held. A fit: none turned held.
abbrev pub OnlyPulls : {E : Type 0} → Meaning E → Meaning E → Type 0
OnlyPulls v w = NoneTurnsBlank v w × NoneTurnsHeld v w

abbrev pub OnlyFits : {E : Type 0} → Meaning E → Meaning E → Type 0
OnlyFits v w = NoneTurnsHeld v w

-- What holds of each call of a list.
abbrev pub Keeps : {E : Type 0} → Meaning E → Meaning E → Call E → Outcome E → Type 0
Keeps v w (Read i n) o = OnlyReads v w
Keeps v w (Write i n e) o = OnlyPuts v w
Keeps v w (Rebuild i) o = OnlyRestores v w i o
Keeps v w (Check i) o = OnlyReads v w
Keeps v w (Pull d) o = OnlyPulls v w
Keeps v w (Fit d) o = OnlyFits v w

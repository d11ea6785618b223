-- What the calls of a shelf do to its meaning: v is the meaning before a call, and w after it.
use Rattle.std.specs.Prelude.{◌≡◌, ℕ, ◌-◌, ◌<◌, Bool, true, false, List, length, Option, Some, None, Result, Ok, Err, IsErr, slice_get, slice_set}
use Rattle.tip_code.specs.declared.geometry.Geometry.{Geometry}
use Rattle.tip_code.specs.Geometry.{prime_of, stripes_of}
use Rattle.tip_shelf.specs.Meaning.{Strip, held, blank, absent, Meaning, Within}
use Rattle.tip_shelf.specs.declared.shelf.Out.{Out}
use Rattle.tip_shelf.specs.declared.shelf.State.{State}
use Rattle.tip_shelf.specs.declared.shelf.State.TheVariants.{Held, Blank, Absent}

-- The geometry is that of the shelf.
pub record Shaped {E : Type 0} (v : Meaning E) (g : Geometry) : Type 0 where
  pub prime : prime_of g ≡ v.prime
  pub stripes : stripes_of g ≡ v.stripes

-- The sizes, the devices and steadiness stay. No call changes them.
pub record Kept {E : Type 0} (v w : Meaning E) : Type 0 where
  pub prime : w.prime ≡ v.prime
  pub stripes : w.stripes ≡ v.stripes
  pub device : (i c : ℕ) → w.device i c ≡ v.device i c
  pub steady : w.steady ≡ v.steady

-- Nothing changes.
pub record Same {E : Type 0} (v w : Meaning E) : Type 0 where
  pub kept : Kept v w
  pub strip : (i c : ℕ) → w.strip i c ≡ v.strip i c

-- What may become of a strip that a call is not to change: it stays, or, where the shelf is not steady, it drops, that is, it is absent
-- afterwards.
pub data Fares {E : Type 0} (steady : Bool) (before after : Strip E) : Type 0 where
  stays : after ≡ before → Fares steady before after
  drops : steady ≡ false → after ≡ absent → Fares steady before after

-- The shelf is only read: its sizes, devices and steadiness stay, and each strip stays or drops.
pub record Fared {E : Type 0} (v w : Meaning E) : Type 0 where
  pub kept : Kept v w
  pub strips : (i c : ℕ) → Fares v.steady (v.strip i c) (w.strip i c)

-- Whether a strip is out: it is blank or absent, and has no elements.
abbrev pub is_out : {E : Type 0} → Strip E → Bool
is_out (held es) = false
is_out blank = true
is_out absent = true

-- Whether a strip is held, and whether it is blank.
abbrev pub is_held : {E : Type 0} → Strip E → Bool
is_held (held es) = true
is_held blank = false
is_held absent = false

abbrev pub is_blank : {E : Type 0} → Strip E → Bool
is_blank (held es) = false
is_blank blank = true
is_blank absent = false

-- Which of the three a strip is.
abbrev pub state_of : {E : Type 0} → Strip E → State
state_of (held es) = Held
state_of blank = Blank
state_of absent = Absent

-- The state of a strip was told.
pub record Told {E : Type 0} (v w : Meaning E) (i c : ℕ) (r : State) : Type 0 where
  pub same : Same v w
  pub told : r ≡ state_of (v.strip i c)

-- What get, put, erase and restore make of the strip that they are for, or None where they have to say out.
abbrev pub got : {E : Type 0} → Strip E → Option (Strip E)
got (held es) = Some (held es)
got blank = None
got absent = None

abbrev pub put : {E : Type 0} → ℕ → E → Strip E → Option (Strip E)
put r e (held es) = Some (held (slice_set es r e))
put r e blank = None
put r e absent = None

abbrev pub erased : {E : Type 0} → Strip E → Option (Strip E)
erased (held es) = Some blank
erased blank = Some blank
erased absent = None

abbrev pub restored : {E : Type 0} → List E → Strip E → Option (Strip E)
restored es (held fs) = None
restored es blank = Some (held es)
restored es absent = None

-- What becomes of that strip. Where the call is done, it is as `to` says. Where the call says out though it could be done, which no
-- steady shelf does, it is absent; where the call has to say out, it stays or drops as any other.
abbrev pub Turns : {E A : Type 0} → Bool → Strip E → Strip E → Option (Strip E) → Result A Out → Type 0
Turns steady before after (Some to) (Ok a) = after ≡ to
Turns steady before after (Some to) (Err e) = (steady ≡ false) × (after ≡ absent)
Turns steady before after None (Ok a) = ⊥
Turns steady before after None (Err e) = Fares steady before after

-- A call for the strip of stripe i and column c, which answers r. Out of its range it says out, and nothing changes.
pub record Acted {E A : Type 0} (v w : Meaning E) (Range : Type 0) (i c : ℕ) (to : Strip E → Option (Strip E)) (r : Result A Out) : Type 0 where
  pub kept : Kept v w
  pub here : Range → Turns v.steady (v.strip i c) (w.strip i c) (to (v.strip i c)) r
  pub others : (j d : ℕ) → (j ≡ i → d ≡ c → ⊥) → Fares v.steady (v.strip j d) (w.strip j d)
  pub beyond : (Range → ⊥) → IsErr r × Same v w

-- The shelf has a cell at stripe i, column c and row r.
pub record InRange {E : Type 0} (v : Meaning E) (i c r : ℕ) : Type 0 where
  pub within : Within v i c
  pub row : r < v.prime - 1

-- The shelf has a strip at stripe i and column c, and the elements are as many as it has rows.
pub record Loads {E : Type 0} (v : Meaning E) (i c : ℕ) (es : List E) : Type 0 where
  pub within : Within v i c
  pub sized : length es ≡ v.prime - 1

-- What is got from a held strip is its element at row r.
abbrev pub Reads : {E : Type 0} → Strip E → ℕ → Result E Out → Type 0
Reads (held es) r (Ok e) = slice_get es r ≡ Some e
Reads (held es) r (Err o) = Unit {0}
Reads blank r o = Unit {0}
Reads absent r o = Unit {0}

pub record Got {E : Type 0} (v w : Meaning E) (i c r : ℕ) (o : Result E Out) : Type 0 where
  pub act : Acted v w (InRange v i c r) i c got o
  pub reads : Reads (v.strip i c) r o

abbrev pub Put : {E A : Type 0} → Meaning E → Meaning E → ℕ → ℕ → ℕ → E → Result A Out → Type 0
Put v w i c r e o = Acted v w (InRange v i c r) i c (put r e) o

abbrev pub Erased : {E A : Type 0} → Meaning E → Meaning E → ℕ → ℕ → Result A Out → Type 0
Erased v w i c o = Acted v w (Within v i c) i c erased o

abbrev pub Restored : {E A : Type 0} → Meaning E → Meaning E → ℕ → ℕ → List E → Result A Out → Type 0
Restored v w i c es o = Acted v w (Loads v i c es) i c (restored es) o

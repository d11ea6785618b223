-- What a call on an array promises: v is the meaning of its shelf before the call, w after it, and o the result. Where
-- a call judges between two of its parts, u is the meaning then. A call that is lent a work buffer has its length,
-- work.
use Rattle.std.specs.Prelude.{◌≡◌, ◌≢◌, ℕ, ◌+◌, ◌-◌, ◌<◌, ◌≤◌, Bool, true, false, cond, ◌&&◌, List, length, Result, Ok, Err, IfOk, IfErr, OnOk, slice_index_or}
use Rattle.tip_element.specs.Counts.{count_below, join_below}
use Rattle.tip_element.specs.Slices.{AllZero}
use Rattle.tip_code.specs.Encoding.{Encoded}
use Rattle.tip_code.specs.Geometry.{places_in}
use Rattle.tip_code.specs.Places.{Place}
use Rattle.tip_code.specs.Stops.{number, Stopped}
use Rattle.tip_code.specs.Stripe.{chains_in, Numbered}
use Rattle.tip_code.specs.declared.chain.Direction.{Direction}
use Rattle.tip_code.specs.declared.stop.Stop.{Stop}
use Rattle.tip_code.specs.declared.stop.Stop.TheVariants as stop
use Rattle.tip_solve.specs.Solving.{work_in}
use Rattle.tip_shelf.specs.Meaning.{Strip, held, blank, absent, Meaning}
use Rattle.tip_shelf.specs.Calls.{Kept, Same, Fares, Fared, is_blank, is_held, is_out}
use Rattle.tip_shelf.specs.Service.{Pulled, Fitted}
use Rattle.tip_gather.specs.Gathering.{outs}
use Rattle.tip_array.specs.Stripes.{element, IsColumn, HeldAre, Lost, concerned, Whole, chain_join_at, Counted}
use Rattle.tip_array.specs.declared.calls.Checks.{Checks}
use Rattle.tip_array.specs.declared.calls.Call.{Call}
use Rattle.tip_array.specs.declared.calls.Call.TheVariants.{Read, Write, Rebuild, Check, Pull, Fit}
use Rattle.tip_array.specs.declared.calls.Answer.{Answer}
use Rattle.tip_array.specs.declared.calls.Answer.TheVariants as answer

-- A refused call leaves the shelf as it was when it was judged, at u; one that gives a stop below 13 changes nothing at
-- all.
abbrev pub Rests : {E A : Type 0} → Meaning E → Meaning E → Meaning E → Result A Stop → Type 0
Rests v u w o = IfErr o (λ s. Same u w × (number s < 13 → Same v w))

-- FORMAT
-- When a format is refused.
pub data FormatStop {E : Type 0} (v : Meaning E) (work : ℕ) : Stop → Type 0 where
  too_short : work < work_in v.prime → FormatStop v work stop.Work

-- What becomes of a strip: one that is not absent is held with zeros, and on a shelf that is not steady any may drop.
pub data Zeroed {E : Type 0} (none : E) (p : ℕ) (steady : Bool) (before after : Strip E) : Type 0 where
  zeros : (es : List E) → before ≢ absent → after ≡ held es → length es ≡ p - 1 → AllZero none es
      → Zeroed none p steady before after
  stays : before ≡ absent → after ≡ absent → Zeroed none p steady before after
  drops : steady ≡ false → after ≡ absent → Zeroed none p steady before after

-- The answer is how many strips are out, over all stripes.
pub record FormatStep {E : Type 0} (none : E) (v w : Meaning E) (work : ℕ) (o : Result ℕ Stop) : Type 0 where
  pub kept : Kept v w
  pub stops : Stopped (FormatStop v work) o
  pub rests : Rests v v w o
  pub strips : OnOk o ((i c : ℕ) → Zeroed none v.prime v.steady (v.strip i c) (w.strip i c))
  pub answer : IfOk o (λ n. n ≡ join_below 0 ◌+◌ w.stripes (outs w))

-- READ
-- When the element of place n of stripe i is refused, where that is judged at u.
pub data ReadStop {E : Type 0} (v u : Meaning E) (i n work : ℕ) : Stop → Type 0 where
  too_short : work < work_in v.prime → ReadStop v u i n work stop.Work
  no_stripe : v.stripes ≤ i → ReadStop v u i n work stop.Stripe
  no_place : places_in v.prime ≤ n → ReadStop v u i n work stop.Place
  lost : Lost u i n → ReadStop v u i n work stop.Lost

-- e is the element of the place: that of its cell where its strip is held, and that of each encoded stripe whose
-- columns the held strips are.
pub record IsElement {E : Type 0} (none : E) (join : E → E → E) (u : Meaning E) (i n : ℕ) (e : E) : Type 0 where
  pub cell : (r c : ℕ) → Place u.prime n r c → is_held (u.strip i c) ≡ true → e ≡ element none (u.strip i c) r
  pub solved : (X : ℕ → ℕ → E) → Encoded none join u.prime X → HeldAre none u i X
      → (r c : ℕ) → Place u.prime n r c → e ≡ X r c

pub record ReadStep {E : Type 0} (none : E) (join : E → E → E) (v w : Meaning E)
    (i n work : ℕ) (o : Result E Stop) : Type 0 where
  pub fared : Fared v w
  pub stops : Stopped (ReadStop v w i n work) o
  pub rests : Rests v w w o
  pub answer : IfOk o (IsElement none join w i n)

-- WRITE
-- x is joined into each element that is to change, and the others stay.
abbrev pub JoinedIn : {E : Type 0} → E → (E → E → E) → (ℕ → Bool) → E → List E → List E → Type 0
JoinedIn none join changes x es fs = (r : ℕ) → r < length es
    → slice_index_or fs r none ≡ cond (changes r) (join (slice_index_or es r none) x) (slice_index_or es r none)

-- What becomes of a strip: where it is held, x is joined into its cells that are to change; where it is out, it stays;
-- on a shelf that is not steady any may drop.
pub data Joins {E : Type 0} (none : E) (join : E → E → E) (changes : ℕ → Bool) (x : E)
    (steady : Bool) (before after : Strip E) : Type 0 where
  joins : (es fs : List E) → before ≡ held es → after ≡ held fs → length fs ≡ length es → JoinedIn none join changes x es fs
      → Joins none join changes x steady before after
  stays : is_out before ≡ true → after ≡ before → Joins none join changes x steady before after
  drops : steady ≡ false → after ≡ absent → Joins none join changes x steady before after

-- x is joined into each cell of the stripe that is to change, where its strip is held; no other cell changes.
pub record Updated {E : Type 0} (none : E) (join : E → E → E) (u w : Meaning E)
    (i : ℕ) (changes : ℕ → ℕ → Bool) (x : E) : Type 0 where
  pub kept : Kept u w
  pub stripe : (k : ℕ) → Joins none join (λ s. changes s k) x u.steady (u.strip i k) (w.strip i k)
  pub others : (j k : ℕ) → j ≢ i → Fares u.steady (u.strip j k) (w.strip j k)

-- At u the old element is known; from there its difference to the new one is joined into the place's cell and its three
-- parity cells. The answer is how many strips of the stripe are out.
pub record WriteStep {E : Type 0} (none : E) (join : E → E → E) (v w : Meaning E)
    (i n : ℕ) (e : E) (work : ℕ) (o : Result ℕ Stop) : Type 0 where
  pub u : Meaning E
  pub old : E
  pub fared : Fared v u
  pub stops : Stopped (ReadStop v u i n work) o
  pub rests : Rests v u w o
  pub read : OnOk o (IsElement none join u i n old)
  pub updated : OnOk o ((r c : ℕ) → Place u.prime n r c → Updated none join u w i (concerned u.prime r c) (join old e))
  pub answer : IfOk o (λ m. m ≡ outs w i)

-- REBUILD
-- When a rebuild is refused, where that is judged at u.
pub data RebuildStop {E : Type 0} (v u : Meaning E) (i work : ℕ) : Stop → Type 0 where
  too_short : work < work_in v.prime → RebuildStop v u i work stop.Work
  no_stripe : v.stripes ≤ i → RebuildStop v u i work stop.Stripe
  lost : 3 < outs u i → RebuildStop v u i work stop.Lost

-- What becomes of the blank strip of column c: it is held with that column of each encoded stripe whose columns the
-- strips held at u are; on a shelf that is not steady it may drop.
pub data Refills {E : Type 0} (none : E) (join : E → E → E) (u : Meaning E) (i c : ℕ) (after : Strip E) : Type 0 where
  refills : (es : List E) → after ≡ held es → length es ≡ u.prime - 1
      → ((X : ℕ → ℕ → E) → Encoded none join u.prime X → HeldAre none u i X → IsColumn none u.prime X c es)
      → Refills none join u i c after
  drops : u.steady ≡ false → after ≡ absent → Refills none join u i c after

-- Each blank strip of the stripe is refilled, and no other changes.
pub record Refilled {E : Type 0} (none : E) (join : E → E → E) (u w : Meaning E) (i : ℕ) : Type 0 where
  pub kept : Kept u w
  pub blanks : (c : ℕ) → u.strip i c ≡ blank → Refills none join u i c (w.strip i c)
  pub others : (j c : ℕ) → (j ≡ i → u.strip i c ≢ blank) → Fares u.steady (u.strip j c) (w.strip j c)

-- How many strips of the stripe were blank and are held.
abbrev pub restored_count : {E : Type 0} → Meaning E → Meaning E → ℕ → ℕ
restored_count v w i = count_below (v.prime + 1) (λ c. is_blank (v.strip i c) && is_held (w.strip i c))

-- At u the held strips have been read. The answer is how many strips of the stripe were blank and are held.
pub record RebuildStep {E : Type 0} (none : E) (join : E → E → E) (v w : Meaning E)
    (i work : ℕ) (o : Result ℕ Stop) : Type 0 where
  pub u : Meaning E
  pub fared : Fared v u
  pub stops : Stopped (RebuildStop v u i work) o
  pub rests : Rests v u w o
  pub refilled : OnOk o (Refilled none join u w i)
  pub answer : IfOk o (λ m. m ≡ restored_count v w i)

-- CHECK
-- When a check is refused.
pub data CheckStop {E : Type 0} (v : Meaning E) (i : ℕ) : Stop → Type 0 where
  no_stripe : v.stripes ≤ i → CheckStop v i stop.Stripe

-- The chain lies wholly in held strips, and does not join to zero.
abbrev pub Fails : {E : Type 0} → E → (E → E → E) → Meaning E → ℕ → Direction → ℕ → Type 0
Fails none join w i d l = Whole w i d l × (chain_join_at none join w i d l ≢ none)

-- The number of chains of the stripe with the property P is k.
abbrev pub Chains : {E : Type 0} → Meaning E → (Direction → ℕ → Type 0) → ℕ → Type 0
Chains w P k = Counted (chains_in w.prime) (λ m. (d : Direction) (l : ℕ) → Numbered w.prime d l m → P d l) k

-- The answer is how many chains are whole, and how many of these fail.
pub record CheckStep {E : Type 0} (none : E) (join : E → E → E) (v w : Meaning E)
    (i : ℕ) (o : Result Checks Stop) : Type 0 where
  pub fared : Fared v w
  pub stops : Stopped (CheckStop v i) o
  pub rests : Rests v v w o
  pub answer : IfOk o (λ k. Chains w (Whole w i) k.whole × Chains w (Fails none join w i) k.failing)

-- PULL AND FIT
-- When a device is refused.
pub data DeviceStop {E : Type 0} (v : Meaning E) (d : ℕ) : Stop → Type 0 where
  no_device : v.prime < d → DeviceStop v d stop.Column

-- An accepted pull answers nothing more.
pub record PullStep {E A : Type 0} (v w : Meaning E) (d : ℕ) (o : Result A Stop) : Type 0 where
  pub stops : Stopped (DeviceStop v d) o
  pub rests : Rests v v w o
  pub pulled : OnOk o (Pulled v w d)

-- The answer is yes or no, and the shelf did as that says.
pub record FitStep {E : Type 0} (v w : Meaning E) (d : ℕ) (o : Result Bool Stop) : Type 0 where
  pub stops : Stopped (DeviceStop v d) o
  pub rests : Rests v v w o
  pub answer : IfOk o (Fitted v w d)

-- ALL CALLS
-- An answer, or the stop by which the call was refused.
abbrev pub Outcome : Type 0 → Type 0
Outcome E = Result (Answer E) Stop

-- The result of a call, under the name of its answer.
abbrev pub outcome : {A E : Type 0} → (A → Answer E) → Result A Stop → Outcome E
outcome name (Ok a) = Ok (name a)
outcome name (Err s) = Err s

-- The call had a result with the property P, and this is its outcome.
abbrev pub Comes : {A E : Type 0} → (A → Answer E) → (Result A Stop → Type 0) → Outcome E → Type 0
Comes {A} name P o = (r : Result A Stop) × (o ≡ outcome name r) × P r

-- The call did what its step promises, and this is its outcome.
abbrev pub Step : {E : Type 0} → E → (E → E → E) → Meaning E → Meaning E → Call E → ℕ → Outcome E → Type 0
Step none join v w (Read i n) work o = Comes answer.Read (ReadStep none join v w i n work) o
Step none join v w (Write i n e) work o = Comes answer.Written (WriteStep none join v w i n e work) o
Step none join v w (Rebuild i) work o = Comes answer.Rebuilt (RebuildStep none join v w i work) o
Step none join v w (Check i) work o = Comes answer.Checked (CheckStep none join v w i) o
Step none join v w (Pull d) work o = Comes {A = Unit {0}} (λ _. answer.Pulled) (PullStep v w d) o
Step none join v w (Fit d) work o = Comes answer.Fitted (FitStep v w d) o

-- What words ask for.
use Rattle.std.specs.Prelude.{◌≡◌, ℕ, ◌+◌, ◌^◌, ◌<◌, ◌≤◌, List, [], ◌∷◌, length, take, Some, None, Option, Ok, Err, Result, string_bytes}
use Rattle.std.specs.Global.{Global}
use Rattle.std.specs.List.{All, Contains, HoldsAt}
use Rattle.std.specs.Str.Parse.{IsNumeral, digits_value, without_leading_plus}
use Rattle.std.specs.declared.string.String.{String}
use Rattle.tip_code.specs.Geometry.{prime_of, stripes_of}
use Rattle.tip_code.specs.Stops.{First}
use Rattle.tip_code.specs.declared.stop.Stop.{Stop}
use Rattle.tip_columns.specs.Sets.{in_set}
use Rattle.tip_columns.specs.declared.Columns.{Columns}
use Rattle.tip_element.specs.Laws.{Exactly}
use Rattle.tip_lose.specs.Choosing.{ChoiceStop}
use Rattle.tip_lose.specs.declared.request.Refusal.{Refusal}
use Rattle.tip_lose.specs.declared.request.Refusal.TheVariants as refusal
use Rattle.tip_lose.specs.declared.request.Request.{Request}

-- A text says a number: decimal digits alone, after a plus sign if it has one, whose value is below 2^64.
pub record Says (text : List ℕ) (n : ℕ) : Type 0 where
  pub digits : IsNumeral 10 (without_leading_plus text)
  pub value : n ≡ digits_value 10 (without_leading_plus text)
  pub fits : n < 2 ^ 64

-- The word says a number, and it says none.
abbrev pub IsNumber : String Global → Type 0
IsNumber w = (n : ℕ) × Says (string_bytes w) n

abbrev pub NoNumber : String Global → Type 0
NoNumber w = (n : ℕ) → Says (string_bytes w) n → ⊥

-- One of the words says n.
abbrev pub Said : List (String Global) → ℕ → Type 0
Said words n = (w : String Global) × Contains words w × Says (string_bytes w) n

-- The set has just the numbers that the words say. There is none where one of them is above 63.
abbrev pub Gathered : List (String Global) → Option Columns → Type 0
Gathered words None = (n : ℕ) × (64 ≤ n) × Said words n
Gathered words (Some s) = (n : ℕ) → Exactly (in_set s n) (Said words n)

-- The word with k others before it is the first that is no number.
pub record FirstUnread (words : List (String Global)) (k : ℕ) : Type 0 where
  pub within : k < length words
  pub this : HoldsAt NoNumber words k
  pub before : All IsNumber (take k words)

-- A choice is refused with the first stop that fits; otherwise it is the request, of one stripe.
abbrev pub Chosen : ℕ → Option Columns → Result Request Refusal → Type 0
Chosen p lost (Ok q) = ((s : Stop) → ChoiceStop p lost s → ⊥) × (prime_of q.geometry ≡ p) × (stripes_of q.geometry ≡ 1) × (lost ≡ Some q.lost)
Chosen p lost (Err (refusal.Stopped s)) = First (ChoiceStop p lost) s
Chosen p lost (Err (refusal.NoNumber k)) = ⊥

-- Columns 1, 3 and 5.
abbrev pub usual_columns : Columns
usual_columns = record { 0 = 2 ^ 1 + 2 ^ 3 + 2 ^ 5 }

-- What words come to: without any, p is 5 and the usual columns are chosen; a word that is no number is refused with its place,
-- counted from 1; otherwise the first says p, and the others the columns.
pub data Asked : List (String Global) → Result Request Refusal → Type 0 where
  usual : (r : Result Request Refusal) → Chosen 5 (Some usual_columns) r → Asked [] r
  unread : (words : List (String Global)) (k : ℕ) → FirstUnread words k → Asked words (Err (refusal.NoNumber (k + 1)))
  read : (w : String Global) (ws : List (String Global)) (p : ℕ) (lost : Option Columns) (r : Result Request Refusal) → Says (string_bytes w) p → All IsNumber ws → Gathered ws lost → Chosen p lost r → Asked (w ∷ ws) r

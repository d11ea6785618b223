-- What a guarded shelf means.
use Rattle.std.specs.Prelude.{◌≡◌, ℕ, ◌-◌, ◌^◌, ◌≤◌, cond, Bool, true, false, nat_le, if◌then◌else◌, slice_set, Option, Some, None, MatchResult, ◌==◌, List, [], ◌∷◌, Result, is_ok, slice_index_or}
use Rattle.std.specs.Borrow.{GName}
use Rattle.tip_element.specs.Laws.{Exactly}
use Rattle.tip_shelf.specs.declared.shelf.Out.{Out}
use Rattle.tip_own_shelf.specs.declared.Pair.{Pair}
use Rattle.tip_element.specs.Words.{word, no_word}
use Rattle.tip_element.specs.declared.word.Word.{Word}
use Rattle.tip_shelf.specs.Performing.{ShelfCall, state_call, get_call, put_call, erase_call, restore_call, pull_call, fit_call}
use Rattle.tip_shelf.specs.Meaning.{Strip, held, blank, absent, Meaning}
use Rattle.tip_own_shelf.specs.declared.Slot.{Slot}
use Rattle.tip_own_shelf.specs.declared.Slot.TheVariants as slot

-- A held slot is a strip of its two words. Whether their complements fit is not looked at.
abbrev pub strip_of : Slot → Strip Word
strip_of (slot.Held a b) = held (word a.word ∷ word b.word ∷ [])
strip_of slot.Blank = blank
strip_of slot.Absent = absent

-- One stripe of four columns, for p = 3, with device c for column c.
abbrev pub guarded : List Slot → Meaning Word
guarded slots = record {
  prime = 3;
  stripes = 1;
  strip = λ i c. cond (i == 0) (strip_of (slice_index_or slots c slot.Absent)) absent;
  device = λ i c. c;
  steady = false;
}

-- The second word of a pair is the complement of the first.
abbrev pub Fits : Pair → Type 0
Fits a = a.complement ≡ 2 ^ 64 - 1 - a.word

-- The shelf owns all that it has.
abbrev pub no_loans : List GName
no_loans = []

-- The slot of a column.
abbrev pub slot_in : List Slot → ℕ → Slot
slot_in slots c = slice_index_or slots c slot.Absent

-- A word with its complement.
abbrev pub guard : Word → Pair
guard w = record { word = w.0; complement = 2 ^ 64 - 1 - w.0 }

-- The slot with another word in row r.
abbrev pub with_word : ℕ → Word → Slot → Slot
with_word r w (slot.Held a b) = if r == 0 then slot.Held (guard w) b else slot.Held a (guard w)
with_word r w slot.Blank = slot.Blank
with_word r w slot.Absent = slot.Absent

-- The pair at stripe i, column c and row r, or None.
abbrev pub pair_in : ℕ → Slot → Option Pair
pair_in r (slot.Held a b) = if r == 0 then Some a else if r == 1 then Some b else None
pair_in r slot.Blank = None
pair_in r slot.Absent = None

abbrev pub pair_at : List Slot → ℕ → ℕ → ℕ → Option Pair
pair_at slots i c r = if i == 0 then pair_in r (slot_in slots c) else None

-- A word is given exactly where its complement fits. Where it does not, the slot is absent afterwards. Nothing else is
-- changed.
pub record Guards (s t : List Slot) (i c r : ℕ) (o : Result Word Out) : Type 0 where
  pub given : (a : Pair) → pair_at s i c r ≡ Some a → Exactly (is_ok o) (Fits a)
  pub kept : is_ok o ≡ true → t ≡ s
  pub lost : (a : Pair) → pair_at s i c r ≡ Some a → is_ok o ≡ false → t ≡ slice_set s c slot.Absent
  pub none : pair_at s i c r ≡ None → t ≡ s

-- An absent slot of a device that is fitted is blank, and nothing else is changed. All four devices can be fitted.
pub record Renewed (s t : List Slot) (d : ℕ) (yes : Bool) : Type 0 where
  pub answer : yes ≡ nat_le d 3
  pub blank : d ≤ 3 → slot_in s d ≡ slot.Absent → t ≡ slice_set s d slot.Blank
  pub stays : (d ≤ 3 → slot_in s d ≡ slot.Absent → ⊥) → t ≡ s

-- What a call does to the slots, s before and t after.
abbrev pub Leaves : List Slot → ShelfCall Word → List Slot → Type 0
Leaves s (state_call i c a) t = t ≡ s
Leaves s (get_call i c r a) t = Guards s t i c r a
Leaves s (put_call i c r w a) t = MatchResult a (λ _. t ≡ slice_set s c (with_word r w (slot_in s c))) (λ _. t ≡ s)
Leaves s (erase_call i c a) t = MatchResult a (λ _. t ≡ slice_set s c slot.Blank) (λ _. t ≡ s)
Leaves s (restore_call i c ws a) t =
    MatchResult a
    (λ _. t ≡ slice_set s c (slot.Held (guard (slice_index_or ws 0 no_word)) (guard (slice_index_or ws 1 no_word))))
    (λ _. t ≡ s)
Leaves s (pull_call d) t = t ≡ (if nat_le d 3 then slice_set s d slot.Absent else s)
Leaves s (fit_call d a) t = Renewed s t d a

-- A shelf seen with its columns turned from stripe to stripe: v and w are meanings of the shelf below.
use Rattle.std.specs.Prelude.{◌≡◌, ℕ, ◌+◌, ◌%◌, ◌<◌, ◌≤◌, nat_le, if◌then◌else◌}
use Rattle.tip_shelf.specs.Meaning.{Meaning, absent}
use Rattle.tip_shelf.specs.Performing.{ShelfCall, state_call, get_call, put_call, erase_call, restore_call, pull_call, fit_call}

-- The column below that column c of stripe i turns into, for c up to p.
abbrev pub turned : ℕ → ℕ → ℕ → ℕ
turned p i c = (c + i) % (p + 1)

-- What the rotated shelf means. Beyond p it has no strip. It is steady where the shelf below is, and has its devices.
abbrev pub rotated : {E : Type 0} → Meaning E → Meaning E
rotated v = record {
  prime = v.prime;
  stripes = v.stripes;
  strip = λ i c. if nat_le c v.prime then v.strip i (turned v.prime i c) else absent;
  device = λ i c. v.device i (turned v.prime i c);
  steady = v.steady;
}

-- What becomes of the shelf below by a call for column c: up to p the call goes down, and beyond nothing is called.
pub record Down {S : Type 0} (p c : ℕ) (s t : S) (Call : Type 0) : Type 0 where
  pub down : c ≤ p → Call
  pub beyond : p < c → t ≡ s

-- A call is the same call of the shelf below, s before and t after, for the column turned into. Pulls and fits go down
-- as they are.
abbrev pub Turned : {S E : Type 0} → ℕ → (S → ShelfCall E → S → Type 0) → S → ShelfCall E → S → Type 0
Turned p performs s (state_call i c a) t = Down p c s t (performs s (state_call i (turned p i c) a) t)
Turned p performs s (get_call i c r a) t = Down p c s t (performs s (get_call i (turned p i c) r a) t)
Turned p performs s (put_call i c r e a) t = Down p c s t (performs s (put_call i (turned p i c) r e a) t)
Turned p performs s (erase_call i c a) t = Down p c s t (performs s (erase_call i (turned p i c) a) t)
Turned p performs s (restore_call i c es a) t = Down p c s t (performs s (restore_call i (turned p i c) es a) t)
Turned p performs s (pull_call d) t = performs s (pull_call d) t
Turned p performs s (fit_call d a) t = performs s (fit_call d a) t

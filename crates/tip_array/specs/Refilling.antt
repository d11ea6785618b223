-- Parts of a rebuild, for its proof: v is the meaning of the shelf before, and w after; i is the stripe.
use Rattle.std.specs.Prelude.{◌≡◌, ◌≢◌, ℕ, ◌+◌, ◌-◌, ◌<◌, ◌≤◌, Bool, false, ◌&&◌, List, Result, MatchResult}
use Rattle.tip_element.specs.Counts.{count_below}
use Rattle.tip_code.specs.declared.stop.Stop.{Stop}
use Rattle.tip_code.specs.declared.stop.Stop.TheVariants as stop
use Rattle.tip_columns.specs.Sets.{in_set, size}
use Rattle.tip_columns.specs.declared.Columns.{Columns}
use Rattle.tip_shelf.specs.Meaning.{Strip, held, blank, absent, Meaning}
use Rattle.tip_shelf.specs.Calls.{Kept, Same, Fares, Fared, is_blank, is_held, is_out}
use Rattle.tip_gather.specs.Gathering.{Copied, outs}
use Rattle.tip_array.specs.Stripes.{IsColumn}
use Rattle.tip_array.specs.Steps.{Refilled, restored_count}

-- A strip that was blank is column c of X, or dropped.
pub data FilledIn {E : Type 0} (none : E) (p : ℕ) (X : ℕ → ℕ → E) (c : ℕ) (steady : Bool) (after : Strip E) : Type 0 where
  fills : (es : List E) → after ≡ held es → IsColumn none p X c es → FilledIn none p X c steady after
  drops : steady ≡ false → after ≡ absent → FilledIn none p X c steady after

-- Of the first n columns, each that was blank was filled.
pub record FilledInBelow {E : Type 0} (none : E) (v w : Meaning E) (i n : ℕ) (X : ℕ → ℕ → E) : Type 0 where
  pub kept : Kept v w
  pub blanks : (c : ℕ) → c < n → v.strip i c ≡ blank → FilledIn none v.prime X c v.steady (w.strip i c)
  pub others : (j c : ℕ) → (j ≡ i → c < n → v.strip i c ≢ blank) → Fares v.steady (v.strip j c) (w.strip j c)

-- A stripe buffer has the held strips of the stripe, and the set has the columns that are out.
pub record HasStrips {E : Type 0} (none : E) (v : Meaning E) (i : ℕ) (lost : Columns) (cells : List E) : Type 0 where
  pub columns : (c : ℕ) → c ≤ v.prime → in_set lost c ≡ is_out (v.strip i c)
  pub read : (c : ℕ) → Copied none v.prime (v.strip i c) c (v.prime - 1) cells

-- The lost columns of a gathered stripe were solved, and its blank strips refilled. The answer is how many columns of a
-- set are held.
pub record SolvedThen {E : Type 0} (none : E) (join : E → E → E) (v w : Meaning E)
    (i : ℕ) (lost set : Columns) (cells : List E) (o : Result ℕ Stop) : Type 0 where
  pub done : MatchResult o
      (λ m. (size lost ≤ 3) × (HasStrips none v i lost cells → Refilled none join v w i)
      × (m ≡ count_below (v.prime + 1) (λ c. in_set set c && is_held (w.strip i c))))
      (λ s. (s ≡ stop.Lost) × (3 < size lost) × Same v w)

-- The stripe was rebuilt: at u the held strips had been read.
pub record Remade {E : Type 0} (none : E) (join : E → E → E) (v w : Meaning E) (i : ℕ) (o : Result ℕ Stop) : Type 0 where
  pub u : Meaning E
  pub fared : Fared v u
  pub done : MatchResult o
      (λ m. (outs u i ≤ 3) × Refilled none join u w i × (m ≡ restored_count v w i))
      (λ s. (s ≡ stop.Lost) × Same u w × (3 < outs u i))

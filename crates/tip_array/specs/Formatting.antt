-- Parts of a format, for its proof: v is the meaning of the shelf before, and w after.
use Rattle.std.specs.Prelude.{◌≡◌, ℕ, Bool, true, false}
use Rattle.tip_shelf.specs.Meaning.{Meaning}
use Rattle.tip_shelf.specs.Calls.{Kept, Fares}
use Rattle.tip_array.specs.Steps.{Zeroed}

-- The strips that are done were formatted, and no other changed.
pub record ZeroedPart {E : Type 0} (none : E) (v w : Meaning E) (done : ℕ → ℕ → Bool) : Type 0 where
  pub kept : Kept v w
  pub strips : (j c : ℕ) → done j c ≡ true → Zeroed none v.prime v.steady (v.strip j c) (w.strip j c)
  pub others : (j c : ℕ) → done j c ≡ false → Fares v.steady (v.strip j c) (w.strip j c)

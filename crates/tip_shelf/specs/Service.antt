-- What pulling and fitting a device does to the meaning of a shelf: v is the meaning before, and w after.
use Rattle.std.specs.Prelude.{◌≡◌, ◌≢◌, ℕ, ◌<◌, ◌≤◌, Bool, true, false}
use Rattle.tip_shelf.specs.Meaning.{Strip, held, blank, absent, Meaning, Within}
use Rattle.tip_shelf.specs.Calls.{Kept, Same, Fares}

-- Device d was pulled: every strip on it is absent. A device beyond p changes nothing.
pub record Pulled {E : Type 0} (v w : Meaning E) (d : ℕ) : Type 0 where
  pub kept : Kept v w
  pub gone : d ≤ v.prime → (i c : ℕ) → v.device i c ≡ d → w.strip i c ≡ absent
  pub others : (i c : ℕ) → v.device i c ≢ d → Fares v.steady (v.strip i c) (w.strip i c)
  pub beyond : v.prime < d → Same v w

-- What becomes of a strip on a device that was fitted: an absent one is blank. Any other stays, or drops.
abbrev pub Renews : {E : Type 0} → Bool → Strip E → Strip E → Type 0
Renews steady (held es) after = Fares steady (held es) after
Renews steady blank after = Fares steady blank after
Renews steady absent after = after ≡ blank

-- Device d was to be fitted, and the answer is yes or no. Where it is no, none of its strips becomes blank. A device beyond p changes
-- nothing, and the answer is no.
pub record Fitted {E : Type 0} (v w : Meaning E) (d : ℕ) (yes : Bool) : Type 0 where
  pub kept : Kept v w
  pub fits : yes ≡ true → (i c : ℕ) → Within v i c → v.device i c ≡ d → Renews v.steady (v.strip i c) (w.strip i c)
  pub refuses : yes ≡ false → (i c : ℕ) → Fares v.steady (v.strip i c) (w.strip i c)
  pub others : (i c : ℕ) → v.device i c ≢ d → Fares v.steady (v.strip i c) (w.strip i c)
  pub beyond : v.prime < d → (yes ≡ false) × Same v w

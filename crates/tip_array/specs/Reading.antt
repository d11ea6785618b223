-- Parts of reading and writing, for the proofs of these calls: v is the meaning of the shelf before, and w after; i is
-- the stripe.
use Rattle.std.specs.Prelude.{◌≡◌, ℕ, ◌<◌, ◌≤◌, true, Result, MatchResult}
use Rattle.tip_code.specs.Encoding.{Encoded}
use Rattle.tip_code.specs.declared.stop.Stop.{Stop}
use Rattle.tip_code.specs.declared.stop.Stop.TheVariants as stop
use Rattle.tip_shelf.specs.Meaning.{Meaning}
use Rattle.tip_shelf.specs.Calls.{Same, Fared, is_held, is_out}
use Rattle.tip_gather.specs.Gathering.{outs}
use Rattle.tip_array.specs.Stripes.{element, HeldAre, concerned}
use Rattle.tip_array.specs.Steps.{Updated}

-- Where the strip of cell (r, c) is held, the cell holds e.
abbrev pub CellHolds : {E : Type 0} → E → Meaning E → ℕ → ℕ → ℕ → E → Type 0
CellHolds none w i r c e = is_held (w.strip i c) ≡ true → e ≡ element none (w.strip i c) r

-- e is the element of cell (r, c): what it holds, and what each encoded stripe has there whose columns the held strips
-- are. Where its strip is out, at most three are.
pub record ElementFound {E : Type 0} (none : E) (join : E → E → E) (w : Meaning E) (i r c : ℕ) (e : E) : Type 0 where
  pub cell : CellHolds none w i r c e
  pub solved : (X : ℕ → ℕ → E) → Encoded none join w.prime X → HeldAre none w i X → e ≡ X r c
  pub few : is_out (w.strip i c) ≡ true → outs w i ≤ 3

-- Cell (r, c) was written: at u its old element was found, and from there the difference was joined in.
pub record Wrote {E : Type 0} (none : E) (join : E → E → E) (v w : Meaning E)
    (i r c : ℕ) (e : E) (o : Result ℕ Stop) : Type 0 where
  pub u : Meaning E
  pub old : E
  pub fared : Fared v u
  pub done : MatchResult o
      (λ m. ElementFound none join u i r c old × Updated none join u w i (concerned u.prime r c) (join old e) × (m ≡ outs w i))
      (λ s. (s ≡ stop.Lost) × Same u w × (is_out (u.strip i c) ≡ true) × (3 < outs u i))

-- What gathering a stripe promises: v is the meaning of the shelf before, and w after; i is the stripe.
use Rattle.std.specs.Prelude.{◌≡◌, ◌≢◌, ℕ, ◌+◌, ◌-◌, ◌<◌, ◌≤◌, Bool, ◌&&◌, List, nat_le, nat_lt, slice_index_or}
use Rattle.tip_element.specs.Counts.{count_below}
use Rattle.tip_code.specs.Geometry.{cells_in}
use Rattle.tip_code.specs.Stripe.{stripe_of}
use Rattle.tip_code.specs.declared.stop.Stop.{Stop}
use Rattle.tip_code.specs.declared.stop.Stop.TheVariants as stop
use Rattle.tip_columns.specs.Sets.{in_set}
use Rattle.tip_columns.specs.declared.Columns.{Columns}
use Rattle.tip_shelf.specs.Meaning.{Strip, held, Meaning}
use Rattle.tip_shelf.specs.Calls.{Same, Fared, is_out}

-- When gathering is refused: the stripe buffer has another length than is needed; there is no such stripe.
pub data GatherStop {E : Type 0} (v : Meaning E) (cells i : ℕ) : Stop → Type 0 where
  cells_length : (cells ≢ cells_in v.prime) → GatherStop v cells i stop.Length
  no_stripe : v.stripes ≤ i → GatherStop v cells i stop.Stripe

-- Where the strip is held, its first n elements are those of column c of a stripe buffer.
abbrev pub Copied : {E : Type 0} → E → ℕ → Strip E → ℕ → ℕ → List E → Type 0
Copied {E} none p s c n cells = (es : List E) → s ≡ held es → (r : ℕ) → r < n → stripe_of none p cells r c ≡ slice_index_or es r none

-- If its strip is held afterwards, the first n rows of column c were read. The other columns of the stripe buffer, which was xs and is ys,
-- stay.
pub record StripRead {E : Type 0} (none : E) (v w : Meaning E) (i c n : ℕ) (xs ys : List E) : Type 0 where
  pub fared : Fared v w
  pub rows : Copied none v.prime (w.strip i c) c n ys
  pub others : (r d : ℕ) → r < v.prime - 1 → d ≢ c → stripe_of none v.prime ys r d ≡ stripe_of none v.prime xs r d

-- Of the first n columns, each whose strip is held afterwards was read whole.
pub record StripsRead {E : Type 0} (none : E) (v w : Meaning E) (i n : ℕ) (cells : List E) : Type 0 where
  pub fared : Fared v w
  pub columns : (c : ℕ) → c < n → Copied none v.prime (w.strip i c) c (v.prime - 1) cells

-- How many strips of the stripe are out.
abbrev pub outs : {E : Type 0} → Meaning E → ℕ → ℕ
outs v i = count_below (v.prime + 1) (λ c. is_out (v.strip i c))

-- Of the first n columns, the set has those whose strips pass the test. Nothing changed.
pub record Picked {E : Type 0} (test : Strip E → Bool) (v w : Meaning E) (i n : ℕ) (set : Columns) : Type 0 where
  pub same : Same v w
  pub columns : (c : ℕ) → in_set set c ≡ (nat_lt c n && test (v.strip i c))

-- The stripe was gathered. The set has the columns that are out at the end, and each strip that is held at the end was read whole. What
-- the stripe buffer holds of columns that are out is left open.
pub record Gathered {E : Type 0} (none : E) (v w : Meaning E) (i : ℕ) (out : Columns) (cells : List E) : Type 0 where
  pub fared : Fared v w
  pub columns : (c : ℕ) → in_set out c ≡ (nat_le c v.prime && is_out (w.strip i c))
  pub read : (c : ℕ) → Copied none v.prime (w.strip i c) c (v.prime - 1) cells

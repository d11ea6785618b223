-- Parts of a check, for its proof: v is the meaning of the shelf before, and w after; i is the stripe.
use Rattle.std.specs.Prelude.{◌≡◌, ◌≢◌, ℕ, ◌<◌, ◌≤◌, ◌&&◌, Bool, false, true, Result, MatchResult, nat_le}
use Rattle.tip_code.specs.Encoding.{datum}
use Rattle.tip_code.specs.Stripe.{Numbered, crossing, covers}
use Rattle.tip_code.specs.declared.chain.Direction.{Direction}
use Rattle.tip_columns.specs.Sets.{in_set}
use Rattle.tip_columns.specs.declared.Columns.{Columns}
use Rattle.tip_element.specs.Counts.{join_below}
use Rattle.tip_element.specs.Laws.{Exactly}
use Rattle.tip_element.specs.Traces.{has}
use Rattle.tip_element.specs.declared.trace.Trace.{Trace}
use Rattle.tip_shelf.specs.Meaning.{Meaning}
use Rattle.tip_shelf.specs.Calls.{Fared, is_out}
use Rattle.tip_shelf.specs.declared.shelf.Out.{Out}
use Rattle.tip_array.specs.Stripes.{element_at, Whole, chain_join_at, in_chain, Counted}
use Rattle.tip_array.specs.Steps.{Fails}
use Rattle.tip_array.specs.declared.calls.Checks.{Checks}

-- Cells of a chain were read in turn. Where the chain lies wholly in strips that are held afterwards, no strip of it
-- was out, and what was read is x.
pub record Collected {E : Type 0} (v w : Meaning E) (i : ℕ) (d : Direction) (l : ℕ)
    (x : E) (o : Result E Out) : Type 0 where
  pub fared : Fared v w
  pub is : MatchResult o (λ e. Whole w i d l → e ≡ x) (λ _. Whole w i d l → ⊥)

-- The line of a chain was read as far as column n, and all is the join of its data cells there.
pub record LineRead {E : Type 0} (none : E) (join : E → E → E) (v w : Meaning E)
    (i : ℕ) (d : Direction) (l n : ℕ) (all : E) : Type 0 where
  pub fared : Fared v w
  pub is : Whole w i d l
      → all ≡ join_below none join n (λ c. datum none w.prime (element_at none w i) (crossing w.prime d l c) c)

-- A chain was read. Where it lies wholly in strips that are held afterwards, the answer is whether it does not join to
-- zero.
pub record Judged {E : Type 0} (none : E) (join : E → E → E) (v w : Meaning E)
    (i : ℕ) (d : Direction) (l : ℕ) (fails : Bool) : Type 0 where
  pub fared : Fared v w
  pub exact : Whole w i d l → Exactly fails (chain_join_at none join w i d l ≢ none)

-- Of the first n chains, the set has just those that do not join to zero, as far as they lie wholly in held strips. Of
-- the others it may have some.
pub record Marks {E : Type 0} (none : E) (join : E → E → E) (w : Meaning E) (i n : ℕ) (set : Trace) : Type 0 where
  pub exact : (m : ℕ) (d : Direction) (l : ℕ) → m < n → Numbered w.prime d l m → Whole w i d l
      → Exactly (has set m) (chain_join_at none join w i d l ≢ none)

-- The first n chains were read.
pub record Marked {E : Type 0} (none : E) (join : E → E → E) (v w : Meaning E) (i n : ℕ) (set : Trace) : Type 0 where
  pub fared : Fared v w
  pub marks : Marks none join w i n set
  pub beyond : (m : ℕ) → n ≤ m → has set m ≡ false

-- The set has the columns of the stripe that are out.
pub record AreOut {E : Type 0} (w : Meaning E) (i : ℕ) (set : Columns) : Type 0 where
  pub columns : (c : ℕ) → in_set set c ≡ (nat_le c w.prime && is_out (w.strip i c))

-- No cell of the chain is in a column of the set.
pub record ClearOf (p : ℕ) (d : Direction) (l : ℕ) (set : Columns) : Type 0 where
  pub none : (r c : ℕ) → in_chain p d l r c ≡ true → in_set set c ≡ false

-- The chain has no data cell in the columns of the set that are below n.
pub record ClearOfBelow (p : ℕ) (d : Direction) (l : ℕ) (set : Columns) (n : ℕ) : Type 0 where
  pub none : (r c : ℕ) → c < n → covers p d l r c ≡ true → in_set set c ≡ false

-- Of the first n chains, so many lie wholly in held strips, and so many of these do not join to zero.
pub record Tallied {E : Type 0} (none : E) (join : E → E → E) (w : Meaning E) (i n : ℕ) (k : Checks) : Type 0 where
  pub whole : Counted n (λ m. (d : Direction) (l : ℕ) → Numbered w.prime d l m → Whole w i d l) k.whole
  pub failing : Counted n (λ m. (d : Direction) (l : ℕ) → Numbered w.prime d l m → Fails none join w i d l) k.failing
  pub low : k.whole ≤ n
  pub few : k.failing ≤ n

-- Which places a parity covers, as a trace: the check of a stripe in which each place holds its own number.
use Rattle.std.specs.Prelude.{◌≡◌, ℕ, ◌<◌, ◌≤◌, Bool, false, List, ◌≢◌, slice_index_or}
use Rattle.tip_element.specs.Counts.{count_below}
use Rattle.tip_code.specs.Encoding.{Encodes}
use Rattle.tip_code.specs.Geometry.{places_in}
use Rattle.tip_code.specs.Places.{Place}
use Rattle.tip_code.specs.Stripe.{covers, parity_column, stripe_of, Numbered, chains_in}
use Rattle.tip_element.specs.Laws.{Exactly}
use Rattle.tip_element.specs.Traces.{has, members, no_trace, trace_join, Just, Alike}
use Rattle.tip_code.specs.declared.chain.Direction.{Direction}
use Rattle.tip_cover.specs.declared.Finding.{Finding}
use Rattle.tip_code.specs.declared.stop.Stop.{Stop}
use Rattle.tip_code.specs.declared.stop.Stop.TheVariants as stop
use Rattle.tip_element.specs.declared.trace.Trace.{Trace}

-- The set t has the places that the parity of line i covers, and no other number; there are n of them.
pub record Cover (p : ℕ) (d : Direction) (i : ℕ) (t : Trace) (n : ℕ) : Type 0 where
  pub each : (k r c : ℕ) → Place p k r c → has t k ≡ covers p d i r c
  pub others : (k : ℕ) → places_in p ≤ k → has t k ≡ false
  pub count : n ≡ count_below (places_in p) (has t)

-- Each place holds its own number.
abbrev pub Own : ℕ → List Trace → Type 0
Own p values = (n : ℕ) → n < places_in p → Just n (slice_index_or values n no_trace)

-- A finding on chain n: what its parity holds in the buffer, beside the places that it covers by the rules.
pub record Found (p : ℕ) (cells : List Trace) (n : ℕ) (f : Finding) : Type 0 where
  pub chain : Numbered p f.chain.direction f.chain.line n
  pub found : f.found ≡ stripe_of no_trace p cells f.chain.line (parity_column p f.chain.direction f.chain.line)
  pub cover : Cover p f.chain.direction f.chain.line f.expected f.places
  -- in an encoded stripe whose places hold their own numbers, every parity holds just the places that it covers
  pub encoded : (g : ℕ → Trace) → ((k : ℕ) → k < places_in p → Just k (g k)) → Encodes no_trace trace_join p g (stripe_of no_trace p cells) → Alike f.found f.expected × (members f.found ≡ f.places)

-- The parity of chain n holds just the places that it covers.
abbrev pub Right : ℕ → List Trace → ℕ → Type 0
Right p cells n = (d : Direction) (i : ℕ) → Numbered p d i n → (t : Trace) (m : ℕ) → Cover p d i t m → Alike (stripe_of no_trace p cells i (parity_column p d i)) t

-- A comparison of all chains: how many there are, and how many are right. Where the stripe is encoded and its places hold
-- their own numbers, all are.
pub record Compared (p : ℕ) (cells : List Trace) (compared agreed : ℕ) : Type 0 where
  pub all : compared ≡ chains_in p
  pub right : (f : ℕ → Bool) → ((n : ℕ) → n < chains_in p → Exactly (f n) (Right p cells n)) → agreed ≡ count_below (chains_in p) f
  pub encoded : (g : ℕ → Trace) → ((n : ℕ) → n < places_in p → Just n (g n)) → Encodes no_trace trace_join p g (stripe_of no_trace p cells) → agreed ≡ compared

-- When traces of places are refused: some number of a place is past 127, or the buffer has another length.
pub data CoverStop (p length needed : ℕ) : Stop → Type 0 where
  too_large : 12 ≤ p → CoverStop p length needed stop.Prime
  wrong_length : (length ≢ needed) → CoverStop p length needed stop.Length

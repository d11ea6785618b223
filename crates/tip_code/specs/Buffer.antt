-- A lent stripe buffer.
use Rattle.std.specs.Prelude.{◌≡◌, ℕ}
use Rattle.tip_code.specs.Stripe.{stripe_of}
use Rattle.tip_code.specs.declared.stripe.Stripe.{Stripe}

-- What it holds, by row and column.
abbrev pub cells_of : {E : Type 0} → E → Stripe E → ℕ → ℕ → E
cells_of none s = stripe_of none s.prime.number s.cells.now

-- t is s at a later time: lent from the same buffer, and of the same prime.
abbrev pub SameBuffer : {E : Type 0} → Stripe E → Stripe E → Type 0
SameBuffer s t = (t.cells.ghost_name ≡ s.cells.ghost_name) × (t.prime.number ≡ s.prime.number)

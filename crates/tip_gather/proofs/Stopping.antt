-- Which stop gathering gets.
use Rattle.std.proofs.Common.{◌≡◌, ◌≢◌, ℕ, ◌<◌, ◌≤◌, sym, arith}
use Rattle.tip_code.specs.Geometry.{prime_of, stripes_of, cells_in}
use Rattle.tip_code.specs.Stops.{number, First}
use Rattle.tip_code.specs.declared.stop.Stop.{Stop}
use Rattle.tip_code.specs.declared.stop.Stop.TheVariants as stop
use Rattle.tip_code.specs.declared.geometry.Geometry.{Geometry}
use Rattle.tip_shelf.specs.Calls.{Shaped}
use Rattle.tip_shelf.specs.Meaning.{Meaning}
use Rattle.tip_gather.specs.Gathering.{GatherStop, cells_length, no_stripe}

module _ {E : Type 0} (v : Meaning E) (g : Geometry) (cells i : ℕ) (shaped : Shaped v g) where
  pub length_stop : (cells ≢ cells_in (prime_of g)) → First (GatherStop v cells i) stop.Length
  length_stop h = record { this = cells_length (rw (sym shaped.prime) h); lower = lower }
    where
      lower : (t : Stop) → number t < 3 → GatherStop v cells i t → ⊥
      lower t l (cells_length e) = omega arith
      lower t l (no_stripe e) = omega arith

  pub stripe_stop : cells ≡ cells_in (prime_of g) → stripes_of g ≤ i → First (GatherStop v cells i) stop.Stripe
  stripe_stop sized h = record { this = no_stripe (rw (sym shaped.stripes) h); lower = lower }
    where
      lower : (t : Stop) → number t < 10 → GatherStop v cells i t → ⊥
      lower t l (cells_length e) = e (rw (sym shaped.prime) sized)
      lower t l (no_stripe e) = omega arith

  pub no_stop : cells ≡ cells_in (prime_of g) → i < stripes_of g → (t : Stop) → GatherStop v cells i t → ⊥
  no_stop sized low t (cells_length e) = e (rw (sym shaped.prime) sized)
  no_stop sized low t (no_stripe e) = omega (arith, shaped.stripes)

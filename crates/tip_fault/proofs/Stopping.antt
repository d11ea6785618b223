-- Which stop a plan gets.
use Rattle.std.proofs.Common.{ℕ, ◌<◌, ◌≤◌, length, arith}
use Rattle.tip_code.specs.Stops.{First, number}
use Rattle.tip_code.specs.declared.stop.Stop.{Stop}
use Rattle.tip_code.specs.declared.stop.Stop.TheVariants as stop
use Rattle.tip_fault.specs.Faults.{Faults, PlanStop, full, no_device}

module _ {E : Type 0} (f : Faults E) (d : ℕ) where
  pub plan_full : 16 ≤ length f.planned → First (PlanStop f d) stop.Losses
  plan_full h = record { this = full h; lower = lower }
    where
      lower : (t : Stop) → number t < 4 → PlanStop f d t → ⊥
      lower _ l (full k) = omega arith
      lower _ l (no_device k) = omega arith

  pub plan_no_device : (16 ≤ length f.planned → ⊥) → (d ≤ f.below.prime → ⊥) → First (PlanStop f d) stop.Column
  plan_no_device room h = record { this = no_device (omega arith); lower = lower }
    where
      lower : (t : Stop) → number t < 12 → PlanStop f d t → ⊥
      lower _ l (full k) = room k
      lower _ l (no_device k) = omega arith

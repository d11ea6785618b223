-- A fault shelf obeys the laws of shelves, since the shelf below does.
use Rattle.std.specs.Prelude.{ℕ}
use Rattle.tip_fault.specs.Faults.{unsteady}
use Rattle.tip_shelf.specs.Meaning.{Meaning, Within, Sound, Devices}

within_below : {E : Type 0} {v : Meaning E} {i c : ℕ} → Within (unsteady v) i c → Within v i c
within_below h = record { stripe = h.stripe; column = h.column }

within_above : {E : Type 0} {v : Meaning E} {i c : ℕ} → Within v i c → Within (unsteady v) i c
within_above h = record { stripe = h.stripe; column = h.column }

pub unsteady_sound : {E : Type 0} {v : Meaning E} → Sound v → Sound (unsteady v)
unsteady_sound s = record {
  prime = s.prime;
  least = s.least;
  most = s.most;
  apart = λ i c d h k e. s.apart i c d (within_below h) (within_below k) e;
  sized = s.sized;
  outside = λ i c out. s.outside i c (λ h. out (within_above h));
}

pub unsteady_devices : {E : Type 0} {v : Meaning E} → Devices v → Devices (unsteady v)
unsteady_devices d = λ i c h. d i c (within_below h)

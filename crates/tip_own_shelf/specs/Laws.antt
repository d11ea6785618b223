-- A guarded shelf obeys what is true of every shelf.
use Rattle.std.proofs.Common.{◌≡◌, ◌<◌, ◌≤◌, List, length, slice_index_or, refl, arith}
use Rattle.std.proofs.lemmas.Bool.Decides.{nat_tests}
use Rattle.std.proofs.Math.ListN.{get_or-eq_default}
use Rattle.tip_shelf.specs.Meaning.{Sound, Devices}
use Rattle.tip_own_shelf.specs.Guarding.{guarded}
use Rattle.tip_own_shelf.specs.declared.Slot.{Slot}
use Rattle.tip_own_shelf.specs.declared.Slot.TheVariants as slot

module _ (slots : List Slot) where
  pub guarded_sound : length slots ≡ 4 → Sound (guarded slots)
  guarded_sound four = record {
    prime = refl;
    least = omega arith;
    most = omega arith;
    apart = λ i c d h k e. e;
    sized = λ i c es e. grind (arith, nat_tests);
    outside = λ i c out.
        let past : 4 ≤ c → slice_index_or slots c slot.Absent ≡ slot.Absent = λ h. get_or-eq_default slots slot.Absent {n = c} (omega (arith, four, h)) in
        let far : i < 1 → c ≤ 3 → ⊥ = λ h k. out (record { stripe = h; column = k }) in
        grind (arith, nat_tests, past, far);
  }

  pub guarded_devices : Devices (guarded slots)
  guarded_devices i c within = within.column

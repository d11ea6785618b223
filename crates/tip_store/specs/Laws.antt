-- A store as a shelf obeys what is true of every shelf.
use Rattle.std.proofs.Common.{◌≡◌, ℕ, ◌+◌, ◌-◌, ◌*◌, ◌≤◌, Bool, true, length, arith}
use Rattle.std.proofs.lemmas.Bool.Decides.{nat_tests}
use Rattle.std.proofs.lemmas.List.FromFn.{length-map-range_with_len}
use Rattle.tip_code.specs.Primes.{listed}
use Rattle.tip_shelf.specs.Meaning.{Sound, Devices}
use Rattle.tip_store.specs.Store.{Store, elements, shelf_of}

module _ {E : Type 0} (p n : ℕ) (fits : Bool) (s : Store E) where
  pub store_sound : listed p ≡ true → 1 ≤ n → n ≤ 4096 → Sound (shelf_of p n fits s)
  store_sound prime least most = record {
    prime = prime;
    least = least;
    most = most;
    apart = λ i c d h k e. e;
    sized = λ i c es e. let len : length (elements p s (i * (p + 1) + c)) ≡ p - 1 = length-map-range_with_len _ 0 (p - 1) in grind (arith, nat_tests, len);
    outside = λ i c out. grind (arith, nat_tests, out);
  }

  pub store_devices : Devices (shelf_of p n fits s)
  store_devices i c within = within.column

-- What the calls for a strip do below, seen through the turn, for a column up to p.
use Rattle.std.proofs.Common.{◌≡◌, ℕ, ◌≤◌, List, Result, arith}
use Rattle.std.proofs.lemmas.Bool.Decides.{nat_tests}
use Rattle.tip_shelf.specs.Meaning.{Meaning}
use Rattle.tip_shelf.specs.Calls.{Got, Put, Erased, Restored}
use Rattle.tip_shelf.specs.declared.shelf.Out.{Out}
use Rattle.tip_rotated.specs.Turning.{turned, rotated}
use Rattle.tip_rotated.specs.Laws.{turned_in, turned_apart}

module _ {E : Type 0} {v w : Meaning E} {i c d : ℕ} (h : c ≤ v.prime) (t : d ≡ turned v.prime i c) where
  pub got_rotated : {r : ℕ} {o : Result E Out} → Got v w i d r o → Got (rotated v) (rotated w) i c r o
  got_rotated g = grind (arith, nat_tests, turned_in, turned_apart)

  pub put_rotated : {A : Type 0} {r : ℕ} {e : E} {o : Result A Out} → Put v w i d r e o → Put (rotated v) (rotated w) i c r e o
  put_rotated a = grind (arith, nat_tests, turned_in, turned_apart)

  pub erased_rotated : {A : Type 0} {o : Result A Out} → Erased v w i d o → Erased (rotated v) (rotated w) i c o
  erased_rotated a = grind (arith, nat_tests, turned_in, turned_apart)

  pub restored_rotated : {A : Type 0} {es : List E} {o : Result A Out} → Restored v w i d es o → Restored (rotated v) (rotated w) i c es o
  restored_rotated a = grind (arith, nat_tests, turned_in, turned_apart)

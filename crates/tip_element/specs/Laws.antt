-- What every kind of element obeys.
use Rattle.std.specs.Prelude.{◌≡◌, Bool, true}

-- Joining is associative and commutative, zero changes nothing, and an element joined with itself is zero.
pub record Laws {E : Type 0} (zero : E) (join : E → E → E) : Type 0 where
  pub assoc : (x y z : E) → join (join x y) z ≡ join x (join y z)
  pub comm : (x y : E) → join x y ≡ join y x
  pub neutral : (x : E) → join zero x ≡ x
  pub cancel : (x : E) → join x x ≡ zero

-- The test r says yes exactly where P holds.
pub record Exactly (r : Bool) (P : Type 0) : Type 0 where
  pub sound : r ≡ true → P
  pub whole : P → r ≡ true

-- What a shelf means: strips of elements, and the devices that carry them.
use Rattle.std.specs.Prelude.{◌≡◌, ℕ, ◌-◌, ◌<◌, ◌≤◌, Bool, true, List, length}
use Rattle.tip_code.specs.Primes.{listed}

-- A strip is the column of one stripe. It is held, with an element for each row, or blank, or absent.
pub data Strip (E : Type 0) : Type 0 where
  held : List E → Strip E
  blank : Strip E
  absent : Strip E

-- The prime p and the number of stripes; for each stripe and column its strip, and the number of the device that carries it; and
-- whether the shelf is steady: no strip of a steady shelf is lost but by a pull.
pub record Meaning (E : Type 0) : Type 0 where
  pub prime : ℕ
  pub stripes : ℕ
  pub strip : ℕ → ℕ → Strip E
  pub device : ℕ → ℕ → ℕ
  pub steady : Bool

-- The shelf has a strip at stripe i and column c.
pub record Within {E : Type 0} (v : Meaning E) (i c : ℕ) : Type 0 where
  pub stripe : i < v.stripes
  pub column : c ≤ v.prime

-- What is true of every shelf: p is one of the ten primes, and there are 1 to 4,096 stripes; no two strips of a stripe are on one
-- device; a held strip has p - 1 elements; what is beyond the last stripe or column is absent.
pub record Sound {E : Type 0} (v : Meaning E) : Type 0 where
  pub prime : listed v.prime ≡ true
  pub least : 1 ≤ v.stripes
  pub most : v.stripes ≤ 4096
  pub apart : (i c d : ℕ) → Within v i c → Within v i d → v.device i c ≡ v.device i d → c ≡ d
  pub sized : (i c : ℕ) (es : List E) → v.strip i c ≡ held es → length es ≡ v.prime - 1
  pub outside : (i c : ℕ) → (Within v i c → ⊥) → v.strip i c ≡ absent

-- The devices of a serviced shelf are those from 0 to p.
abbrev pub Devices : {E : Type 0} → Meaning E → Type 0
Devices v = (i c : ℕ) → Within v i c → v.device i c ≤ v.prime

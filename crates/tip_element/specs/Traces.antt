-- Traces: sets of numbers from 0 to 127, kept as the bits of two 64-bit words.
use Rattle.std.specs.Prelude.{◌≡◌, ℕ, ◌-◌, ◌/◌, ◌%◌, ◌^◌, Bool, cond, not, ◌==◌, bit_xor, nat_lt, refl}
use Rattle.std.specs.Int.Bits.{xor_assoc, xor_self}
use Rattle.std.proofs.lemmas.Nat.{xor_comm}
use Rattle.tip_element.specs.Counts.{count_below}
use Rattle.tip_element.specs.Laws.{Laws}
use Rattle.tip_element.specs.declared.trace.Trace.{Trace}

-- Bit n of a word.
abbrev pub bit : ℕ → ℕ → Bool
bit x n = x / 2 ^ n % 2 == 1

-- The number n is in the set: bit n of the low word, or bit n - 64 of the high one.
abbrev pub has : Trace → ℕ → Bool
has t n = cond (nat_lt n 64) (bit t.low n) (bit t.high (n - 64))

-- The set holds the number k, and no other.
abbrev pub Just : ℕ → Trace → Type 0
Just k t = (n : ℕ) → has t n ≡ (n == k)

-- The same set: each number is in both, or in neither.
abbrev pub Alike : Trace → Trace → Type 0
Alike t u = (n : ℕ) → has t n ≡ has u n

-- How many numbers are in the set.
unfoldable pub members : Trace → ℕ
members t = count_below 128 (has t)

-- In just one of two sets.
abbrev pub one_of : Bool → Bool → Bool
one_of a b = cond a (not b) b

abbrev of_halves : ℕ → ℕ → Trace
of_halves l h = record { low = l; high = h }

abbrev pub no_trace : Trace
no_trace = of_halves 0 0

abbrev pub trace_join : Trace → Trace → Trace
trace_join x y = of_halves (bit_xor x.low y.low) (bit_xor x.high y.high)

both : {a b c d : ℕ} → a ≡ b → c ≡ d → of_halves a c ≡ of_halves b d
both {a} {b} {c} {d} p q = rw (p, q)

pub trace_laws : Laws no_trace trace_join
trace_laws = record {
  assoc = λ x y z. both (xor_assoc x.low y.low z.low) (xor_assoc x.high y.high z.high);
  comm = λ x y. both (xor_comm x.low y.low) (xor_comm x.high y.high);
  neutral = λ x. refl;
  cancel = λ x. both (xor_self x.low) (xor_self x.high);
}

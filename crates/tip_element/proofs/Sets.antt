-- Traces as sets: members of joins, counts of members, and sets with the same members.
use Rattle.std.proofs.Common.{◌≡◌, ℕ, ◌+◌, ◌-◌, ◌^◌, ◌<◌, Bool, true, false, not, sym, ap, ◌∙◌, ap₂, add-one, arith}
use Rattle.std.proofs.lemmas.Bool.Decides.{nat_tests}
use Rattle.tip_element.specs.Counts.{count_below}
use Rattle.tip_element.specs.Traces.{has, one_of, no_trace, trace_join, Alike}
use Rattle.tip_element.specs.declared.trace.Trace.{Trace}
use Rattle.tip_element.proofs.Bits.{bit_of_xor, bit_zero, bits_same}

-- one number more is counted, or not
pub count_on : (m : ℕ) (f : ℕ → Bool) → f m ≡ true → count_below (m + 1) f ≡ count_below m f + 1
count_on m f e = ap (λ k. count_below k f) (add-one m) ∙ rw e (sym (add-one (count_below m f)))

pub count_off : (m : ℕ) (f : ℕ → Bool) → f m ≡ false → count_below (m + 1) f ≡ count_below m f
count_off m f e = rw (add-one, e)

-- a number is in a join where it is in just one of the two sets, whichever word has its bit
pub has_join : (x y : Trace) (n : ℕ) → has (trace_join x y) n ≡ one_of (has x n) (has y n)
has_join x y n = grind (arith, bit_of_xor x.low y.low n, bit_of_xor x.high y.high (n - 64))

-- joining a set with one that lacks the number, and joining a number that is new
pub one_of_same : (a b : Bool) → b ≡ false → one_of a b ≡ a
one_of_same true b e = ap not e
one_of_same false b e = e

pub no_member : (k : ℕ) → has no_trace k ≡ false
no_member k = grind (arith, bit_zero k, bit_zero (k - 64))

-- sets with the same members are equal
pub trace_same : (t u : Trace) → t.low < 2 ^ 64 → t.high < 2 ^ 64 → u.low < 2 ^ 64 → u.high < 2 ^ 64 → Alike t u → t ≡ u
trace_same t u a b c d same =
    let lows = bits_same 64 t.low u.low a c (λ n h. grind (arith, nat_tests, same n)) in
    let highs = bits_same 64 t.high u.high b d (λ n h. grind (arith, nat_tests, same (64 + n))) in
    let made : ℕ → ℕ → Trace = λ l h. record { low = l; high = h } in
    ap₂ made lows highs

-- The numbers below 64 are the bits of the low word, and the 64 after them those of the high one.
use Rattle.std.proofs.Common.{◌≡◌, ℕ, ◌+◌, ◌<◌, sym, ◌∙◌, ap₂, arith}
use Rattle.std.proofs.lemmas.Bool.Decides.{nat_tests}
use Rattle.tip_element.specs.Traces.{bit, has, members}
use Rattle.tip_element.specs.declared.trace.Trace.{Trace}
use Rattle.tip_element.proofs.Bits.{count_same, count_split, ones_bits}
use Rattle.tip_element.proofs.trace.Trace.count.Goals as goal

-- The low word's bits are the numbers below 64.
in_low : (t : Trace) (i : ℕ) → i < 64 → bit t.low i ≡ has t i
in_low t i h = grind (arith, nat_tests)

-- The high word's bits are the 64 numbers from 64 on.
in_high : (t : Trace) (i : ℕ) → i < 64 → bit t.high i ≡ has t (64 + i)
in_high t i h = grind (arith, nat_tests)

pub returns : goal.returns
unfolding members
returns c =
    let t = c.args.self in
    c.ones_of.ensures
    ∙ ap₂ (λ x y. x + y)
    (ones_bits 64 t.low (omega arith) ∙ count_same 64 (bit t.low) (has t) (in_low t))
    (ones_bits 64 t.high (omega arith) ∙ count_same 64 (bit t.high) (λ i. has t (64 + i)) (in_high t))
    ∙ sym (count_split 64 64 (has t))

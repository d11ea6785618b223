use Rattle.std.proofs.Common.{◌+◌, ◌/◌, ◌^◌, refl, w64, arith}
use Rattle.std.specs.Int.{trailing_zeros}
use Rattle.tip_solve.proofs.Seeking.{no_bit, first_bit}
use Rattle.tip_solve.proofs.sought.next_lost.Goals as goal

pub returns-then-rest-eq0 : goal.returns-then-rest-eq0
returns-then-rest-eq0 c k h l = no_bit c.args.lost.0 c.args.from c.if-rest-eq0.true k h

pub returns-then-column-prime : goal.returns-then-column-prime
returns-then-column-prime c k h l =
    let x = c.args.lost.0 in
    let from = c.args.from in
    let column = from + trailing_zeros w64 (x / 2 ^ from) in
    (first_bit x from column (omega arith) c.if-rest-eq0.false refl).1 k h (omega (arith, l, c.if-column-prime.true))

pub returns : goal.returns
returns c =
    let x = c.args.lost.0 in
    let from = c.args.from in
    let column = from + trailing_zeros w64 (x / 2 ^ from) in
    let first = first_bit x from column (omega arith) c.if-rest-eq0.false refl in
    (omega arith, omega (arith, c.if-column-prime.false), first.0, first.1)

use Rattle.std.proofs.Common.{◌≡◌, ℕ, ◌-◌, ◌<◌, sym, subst, arith}
use Rattle.tip_code.specs.Encoding.{chain_join}
use Rattle.tip_code.specs.Stripe.{stripe_of}
use Rattle.tip_code.specs.declared.chain.Direction.TheVariants.{Antidiagonal}
use Rattle.tip_code.proofs.Tables.{prime_facts}
use Rattle.tip_algebra.specs.Cyclic.{Holds, Twice}
use Rattle.tip_algebra.specs.Unknown.{RowPairSums}
use Rattle.tip_solve.specs.Writing.{CellElsewhere}
use Rattle.tip_solve.proofs.Recovering.{emptied_one, emptied_two, found_two}
use Rattle.tip_solve.proofs.recover.recover_two.Goals as goal

pub find_last-requires-clause-twice : goal.find_last-requires-clause-twice
find_last-requires-clause-twice g c =
    subst (λ (n : ℕ). Twice g.E.Element.zero n c.read_two.new.diagonals) (sym c.requires.prime) c.read_two.ensures.twice

pub returns-clause-found : goal.returns-clause-found
returns-clause-found g c =
    let m = g.E.Element in
    let s = c.args.stripe.now in
    let p = s.prime.number in
    let f = c.args.at.first in
    let h = c.args.at.last in
    let at = stripe_of m.zero p in
    let Z = at c.clear_column-2.new.cells in
    let d = c.read_two.new.diagonals in
    let r = c.read_two.new.rows in
    let y = c.find_last.new.last in
    let below = c.requires.room.0 in
    let C = c.set_antidiagonal.new.stripe.cells.now in
    let D = c.set_antidiagonal-2.new.stripe.cells.now in
    let same = c.set_antidiagonal.ensures.same.1 in
    found_two m.laws p (prime_facts p s.prime.listed) c.args.at below (at s.cells.now) Z
    (at c.write_unfolded.new.cells) (at c.write_unfolded-2.new.cells) (at C) (at D)
    (emptied_two m.zero p (at s.cells.now) f h (at c.clear_column.new.cells) Z (omega (arith, c.args.at.ordered))
    (emptied_one m.zero p (at s.cells.now) f (at c.clear_column.new.cells) c.clear_column.ensures.elsewhere
    c.clear_column.ensures.here)
    c.clear_column-2.ensures.elsewhere c.clear_column-2.ensures.here)
    d r c.find_first.new.first y c.read_two.ensures.diagonals c.read_two.ensures.rows
    (subst (λ (n : ℕ). (U V : ℕ → g.row.E.Denot) → RowPairSums m.zero m.join n f h r d U V → Holds m.zero n y V)
    c.requires.prime c.find_last.ensures)
    (λ i l. c.find_first.ensures i (omega (arith, c.requires.prime)))
    c.write_unfolded.ensures.elsewhere c.write_unfolded-2.ensures.elsewhere c.write_unfolded.ensures.here
    c.write_unfolded-2.ensures.here
    c.set_antidiagonal.ensures.elsewhere
    (subst (λ (n : ℕ). CellElsewhere n (n - 1 - h) h (stripe_of m.zero n C) (stripe_of m.zero n D)) same
    c.set_antidiagonal-2.ensures.elsewhere)
    c.set_antidiagonal.ensures.here
    (subst (λ (n : ℕ). 0 < h → stripe_of m.zero n D (n - 1 - h) h
    ≡ chain_join m.zero m.join n (stripe_of m.zero n C) Antidiagonal (n - 1 - h)) same
    c.set_antidiagonal-2.ensures.here)

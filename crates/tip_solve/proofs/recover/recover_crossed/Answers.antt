use Rattle.std.proofs.Common.{ℕ, List, subst, arith}
use Rattle.tip_code.specs.Encoding.{Encoded}
use Rattle.tip_code.specs.Stripe.{stripe_of}
use Rattle.tip_code.proofs.Tables.{prime_facts}
use Rattle.tip_algebra.specs.Known.{KnownSums}
use Rattle.tip_solve.specs.Finding.{ListsColumn}
use Rattle.tip_solve.specs.Seeking.{sought}
use Rattle.tip_solve.specs.declared.sought.Sought.TheVariants.{Two}
use Rattle.tip_solve.proofs.Recovering.{emptied_one, emptied_two, found_crossed}
use Rattle.tip_solve.proofs.recover.recover_crossed.Goals as goal

pub returns-clause-found : goal.returns-clause-found
returns-clause-found g c =
    let m = g.E.Element in
    let s = c.args.stripe.now in
    let p = s.prime.number in
    let f = c.args.at.first in
    let h = c.args.at.last in
    let at = stripe_of m.zero p in
    let Z = at c.clear_column-2.new.cells in
    let d = c.read_crossed-all.new.diagonals in
    let a = c.read_crossed-all.new.antidiagonals in
    let e = c.read_crossed-all.result in
    let x = c.cells_of_two.new.first in
    let y = c.cells_of_two.new.last in
    let is = c.read_crossed-all.ensures in
    found_crossed m.laws p (prime_facts p s.prime.listed) c.args.at c.requires.room.0 (at s.cells.now) Z
    (at c.write_column.new.cells) (at c.write_column-2.new.cells)
    (emptied_two m.zero p (at s.cells.now) f h (at c.clear_column.new.cells) Z
    (omega (arith, c.args.at.ordered, c.requires.room.0))
    (emptied_one m.zero p (at s.cells.now) f (at c.clear_column.new.cells) c.clear_column.ensures.elsewhere
    c.clear_column.ensures.here)
    c.clear_column-2.ensures.elsewhere c.clear_column-2.ensures.here)
    d a x y e is.diagonals is.antidiagonals is.all
    (subst (λ (n : ℕ). (W : ℕ → ℕ → g.row.E.Denot) (r : List g.row.E.Denot) → Encoded m.zero m.join n W
    → KnownSums m.zero m.join n (sought (Two c.args.at)) W d a r e → ListsColumn m.zero n W f x
    × ListsColumn m.zero n W h y) c.requires.prime c.cells_of_two.ensures)
    c.write_column.ensures.elsewhere c.write_column-2.ensures.elsewhere c.write_column.ensures.here
    c.write_column-2.ensures.here

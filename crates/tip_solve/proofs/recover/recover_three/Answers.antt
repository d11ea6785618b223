use Rattle.std.proofs.Common.{ℕ, List, subst, arith}
use Rattle.tip_code.specs.Encoding.{Encoded}
use Rattle.tip_code.specs.Stripe.{stripe_of}
use Rattle.tip_code.proofs.Tables.{prime_facts}
use Rattle.tip_algebra.specs.Known.{KnownSums, RowSums}
use Rattle.tip_solve.specs.Finding.{ListsColumn}
use Rattle.tip_solve.specs.Seeking.{sought}
use Rattle.tip_solve.specs.declared.sought.Sought.TheVariants.{Three}
use Rattle.tip_solve.proofs.Recovering.{emptied_one, emptied_two, emptied_three, found_three}
use Rattle.tip_solve.proofs.recover.recover_three.Goals as goal

pub returns-clause-found : goal.returns-clause-found
returns-clause-found g c =
    let m = g.E.Element in
    let s = c.args.stripe.now in
    let p = s.prime.number in
    let f = c.args.at.first in
    let j = c.args.at.middle in
    let h = c.args.at.last in
    let ordered = c.args.at.ordered in
    let ascending = c.args.at.ascending in
    let below = c.requires.room.0 in
    let at = stripe_of m.zero p in
    let Z₁ = at c.clear_column.new.cells in
    let Z₂ = at c.clear_column-2.new.cells in
    let Z = at c.clear_column-3.new.cells in
    let is = c.read_three-all.ensures in
    let d = c.read_three-all.new.diagonals in
    let a = c.read_three-all.new.antidiagonals in
    let r = c.read_three-all.new.rows in
    let e = c.read_three-all.result in
    let x = c.cells_of_three.new.first in
    let y = c.cells_of_three.new.middle in
    let z = c.cells_of_three.new.last in
    found_three m.laws p (prime_facts p s.prime.listed) c.args.at below (at s.cells.now) Z
    (at c.write_column.new.cells) (at c.write_column-2.new.cells) (at c.write_column-3.new.cells)
    (emptied_three m.zero p (at s.cells.now) f j h Z₂ Z below
    (emptied_two m.zero p (at s.cells.now) f j Z₁ Z₂ (omega (arith, ordered, ascending, below))
    (emptied_one m.zero p (at s.cells.now) f Z₁ c.clear_column.ensures.elsewhere c.clear_column.ensures.here)
    c.clear_column-2.ensures.elsewhere c.clear_column-2.ensures.here)
    c.clear_column-3.ensures.elsewhere c.clear_column-3.ensures.here)
    d a r x y z e is.diagonals is.antidiagonals is.rows is.all
    (subst (λ (n : ℕ). (W : ℕ → ℕ → g.row.E.Denot) (k : List g.row.E.Denot) → Encoded m.zero m.join n W
    → KnownSums m.zero m.join n (sought (Three c.args.at)) W d a k e → RowSums m.zero m.join n W k r
    → ListsColumn m.zero n W f x × ListsColumn m.zero n W j y × ListsColumn m.zero n W h z) c.requires.prime
    c.cells_of_three.ensures)
    c.write_column.ensures.elsewhere c.write_column-2.ensures.elsewhere c.write_column-3.ensures.elsewhere
    c.write_column.ensures.here c.write_column-2.ensures.here c.write_column-3.ensures.here

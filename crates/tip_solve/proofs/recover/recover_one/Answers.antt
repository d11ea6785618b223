use Rattle.std.proofs.Common.{◌+◌, ◌-◌, length, drop, take, ◌∙◌, arith, rules}
use Rattle.std.proofs.lemmas.List.{places}
use Rattle.tip_code.specs.Stripe.{stripe_of}
use Rattle.tip_code.proofs.Tables.{prime_facts}
use Rattle.tip_algebra.proofs.Cyclic.{twice_at}
use Rattle.tip_solve.proofs.Recovering.{emptied_one, found_one}
use Rattle.tip_solve.proofs.recover.recover_one.Goals as goal

pub returns-clause-found : goal.returns-clause-found
returns-clause-found g c =
    let m = g.E.Element in
    let s = c.args.stripe.now in
    let p = s.prime.number in
    let f = c.args.column in
    let at = stripe_of m.zero p in
    let d = c.read_diagonals.new.diagonals in
    let low = c.requires.0 in
    found_one m.laws p (prime_facts p s.prime.listed) f low (at s.cells.now) (at c.clear_column.new.cells)
    (at c.write_unfolded.new.cells) (at c.set_antidiagonal.new.stripe.cells.now)
    (emptied_one m.zero p (at s.cells.now) f (at c.clear_column.new.cells) c.clear_column.ensures.elsewhere
    c.clear_column.ensures.here)
    d (take (length d - f) (drop f d)) c.read_diagonals.ensures.chains
    (λ i l. search (rules, places) ∙ twice_at m.zero p d c.read_diagonals.ensures.twice (i + f) (omega arith))
    c.write_unfolded.ensures.elsewhere c.write_unfolded.ensures.here c.set_antidiagonal.ensures.elsewhere
    c.set_antidiagonal.ensures.here

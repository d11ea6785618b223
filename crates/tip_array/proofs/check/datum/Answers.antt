use Rattle.std.proofs.Common.{◌≡◌, true, false, sym, ap, subst}
use Rattle.tip_code.specs.Stripe.{covers}
use Rattle.tip_array.proofs.Checking.{collected_datum, collected_none}
use Rattle.tip_array.proofs.check.datum.Goals as goal
use Rattle.tip_array.proofs.check.datum.Goals.{in-Some, in-None}

pub returns-clause-collected : goal.returns-clause-collected
returns-clause-collected g c =
    let m = g.S.Shelf.meaning in
    let none = g.S.Element.Element.zero in
    let d = c.args.chain.direction in
    let l = c.args.chain.line in
    let k = c.args.column in
    let t = (g.met.S.Shelf.sound c.args.shelf.now).prime in
    let e = c.geometry.ensures.prime in
    elim c.match-covered.branch [
      | in-Some w ↦
          let here = subst (λ p. covers p d l w.in-Some.cell.row k ≡ true) e w.in-Some.ensures.1 in
          rw (ap m w.shelf-is, w.result-is, sym w.in-Some.ensures.0)
          (collected_datum none w.get.result t c.requires.line c.requires.there (rw w.in-Some.ensures.0 here) w.get.ensures.act)
      | in-None w ↦
          rw (ap m w.shelf-is, w.result-is)
          (collected_none none k t c.requires.line (λ r. subst (λ p. covers p d l r k ≡ false) e (w.in-None.ensures r)) w.zero.ensures)
    ]

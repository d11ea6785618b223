use Rattle.std.proofs.Common.{◌<◌, subst, sym, ℕ}
use Rattle.tip_code.specs.Geometry.{places_in}
use Rattle.tip_code.proofs.Numbers.{number_below}
use Rattle.tip_code.proofs.Steps.{place_by}
use Rattle.tip_code.proofs.placing.place_of.Goals as goal

pub returns-clause-value : goal.returns-clause-value
returns-clause-value c =
    let p = c.args.prime in
    place_by p.number p.listed c.args.cell.row c.args.cell.column c.min-first.result c.max-second.result
    c.without.result c.requires c.min-first.ensures c.max-second.ensures c.without.ensures.both
    c.without.ensures.one c.without.ensures.none

pub returns-clause-within : goal.returns-clause-within
returns-clause-within c =
    let p = c.args.prime in
    subst (λ (n : ℕ). n < places_in p.number)
    (sym (place_by p.number p.listed c.args.cell.row c.args.cell.column c.min-first.result c.max-second.result
    c.without.result c.requires c.min-first.ensures c.max-second.ensures c.without.ensures.both
    c.without.ensures.one c.without.ensures.none))
    (number_below p.number p.listed c.args.cell.row c.args.cell.column c.requires)

use Rattle.std.proofs.Common.{◌≡◌, length, get_or, take, ap, ◌∙◌, arith, rules}
use Rattle.std.proofs.lemmas.List.{places}
use Rattle.tip_element.specs.Counts.{join_below}
use Rattle.tip_element.proofs.Joins.{join_same}
use Rattle.tip_solve.proofs.Written.{part_long}
use Rattle.tip_solve.proofs.runs.join_first.Goals as goal

pub returns : goal.returns
returns g c =
    let m = g.E.Element in
    let n = c.args.many in
    let xs = c.args.run.now in
    let long : length (take n xs) ≡ n = part_long n 0 xs (omega (arith, c.requires)) in
    c.join_all.ensures
    ∙ ap (λ k. join_below m.zero m.join k (λ i. get_or (take n xs) i m.zero)) long
    ∙ join_same m.zero m.join n (λ i. get_or (take n xs) i m.zero) (λ i. get_or xs i m.zero)
    (λ i l. search (rules, places))

use Rattle.std.proofs.Common.{◌-◌, arith}
use Rattle.std.proofs.lemmas.List.{get_or_read}
use Rattle.tip_algebra.proofs.Unfolding.{fold_first, fold_other}
use Rattle.tip_solve.proofs.sums.fold_back.Goals as goal

pub returns-then-column-gt0 : goal.returns-then-column-gt0
returns-then-column-gt0 g c W held same r h =
    let m = g.E.Element in
    let p = c.args.prime.number in
    let xs = c.args.run.now in
    fold_other m.laws p W c.args.column c.requires.0 xs c.index-run-p.result c.args.parities c.join.result c.requires.1 c.if-column-gt0.true held (get_or_read xs (p - 1) c.index-run-p.result (omega (arith, c.requires.1, c.args.prime.low)) c.index-run-p.is m.zero) same c.join.ensures r h

pub returns-else-column-gt0 : goal.returns-else-column-gt0
returns-else-column-gt0 g c W held same r h =
    fold_first g.E.Element.laws c.args.prime.number W c.args.column c.requires.0 c.args.run.now (omega arith) held r h

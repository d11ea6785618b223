use Rattle.std.proofs.Common.{◌-◌, ◌∙◌, arith, get_or-set_other}
use Rattle.tip_solve.proofs.sums.Sums.fold_into.Goals as goal

pub returns-clause-rows : goal.returns-clause-rows
returns-clause-rows g c i h =
    let m = g.E.Element in
    c.repeat.ensures.first i (omega arith)
    ∙ get_or-set_other c.mirror.new.folded (c.args.self.now.prime.number - 1) i c.args.all m.zero (omega arith)
    ∙ c.mirror.ensures i (omega arith)

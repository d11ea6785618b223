use Rattle.std.proofs.lemmas.Result.{err_from_is_err_and}
use Rattle.tip_array.proofs.Histories.{formatted_run, formatted_work}
use Rattle.tip_array.proofs.Working.{format_early}
use Rattle.tip_array.proofs.array.Array.format_and_run.Goals as goal

pub returns-in_err-out-clause-work : goal.returns-in_err-out-clause-work
returns-in_err-out-clause-work g c =
    let p = err_from_is_err_and c.from_residual-in_err-out.result c.from_residual-in_err-out.ensures.1 in
    rw p.1 (c.in_err-out.ensures.work.0 (format_early c.in_err-out.ensures.step.stops.this))

pub returns-clause-ran : goal.returns-clause-ran
returns-clause-ran g c = formatted_run g.S.Element.Element.laws (g.met.S.Shelf.sound c.args.self.now.shelf) c.in_ok-out.ensures.step c.in_ok-out.ensures.work c.run_all.ensures.history

pub returns-clause-work : goal.returns-clause-work
returns-clause-work g c = formatted_work (g.S.Shelf.meaning c.args.self.now.shelf) c.in_ok-out.ensures.step.kept.prime c.in_ok-out.ensures.work c.run_all.ensures.history

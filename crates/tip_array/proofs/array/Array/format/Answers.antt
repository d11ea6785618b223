use Rattle.std.proofs.Common.{Ok, length, ap, arith}
use Rattle.tip_solve.specs.Solving.{work_in}
use Rattle.tip_array.proofs.Soundness.{format_sound}
use Rattle.tip_array.proofs.Zeroing.{format_step, format_stopped}
use Rattle.tip_array.proofs.array.Array.format.Goals as goal

pub returns-then-work-size-clause-step : goal.returns-then-work-size-clause-step
returns-then-work-size-clause-step g c = format_stopped (omega (arith, c.if-work-size.true, c.work_len-size.ensures, ap work_in c.geometry.ensures.prime))

pub returns-clause-step : goal.returns-clause-step
returns-clause-step g c = format_step (g.met.S.Shelf.sound c.args.self.now.shelf) (omega (arith, c.if-work-size.false, c.work_len-size.ensures, ap work_in c.geometry.ensures.prime)) c.zero_with.ensures.zeroed c.count_all_out.ensures.same c.count_all_out.ensures.value

pub returns-clause-sound : goal.returns-clause-sound
returns-clause-sound g c =
    format_sound g.S.Element.Element.laws {work = length c.args.work.now} (Ok c.count_all_out.result) (g.met.S.Shelf.sound c.args.self.now.shelf) (format_step (g.met.S.Shelf.sound c.args.self.now.shelf) (omega (arith, c.if-work-size.false, c.work_len-size.ensures, ap work_in c.geometry.ensures.prime)) c.zero_with.ensures.zeroed c.count_all_out.ensures.same c.count_all_out.ensures.value)

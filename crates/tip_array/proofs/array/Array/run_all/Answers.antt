use Rattle.std.proofs.Common.{◌+◌, ◌∙◌, ap}
use Rattle.tip_array.proofs.Histories.{turn, ended}
use Rattle.tip_array.proofs.Stepping.{step_kept}
use Rattle.tip_array.proofs.array.Array.run_all.Goals as goal

pub loop-call-preserved : goal.loop-call-preserved
loop-call-preserved g c =
    let l = c.loop-call in
    let pushed = c.push_reserved.ensures in
    let done = c.serve.ensures in
    record {
      history = rw pushed.items (turn c.args.calls.now l.call-index c.call-item.result c.serve.result c.loop-call-test.true c.call-item.is l.auto.work l.invariant.prime l.invariant.history done.step done.work);
      count = pushed.len ∙ ap (λ n. n + 1) l.invariant.count;
      room = pushed.capacity ∙ l.invariant.room;
      prime = (step_kept g.S.Element.Element.laws _ _ c.call-item.result _ c.serve.result (g.met.S.Shelf.sound l.self.shelf).prime done.step).prime ∙ l.invariant.prime;
      lent = done.lent ∙ l.invariant.lent;
    }

pub returns-clause-history : goal.returns-clause-history
returns-clause-history g c = ended c.args.calls.now c.loop-call.call-index c.loop-call-test.false c.loop-call.invariant.history

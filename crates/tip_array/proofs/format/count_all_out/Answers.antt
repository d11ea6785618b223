use Rattle.std.proofs.Common.{◌+◌, ap, ◌∙◌, add-one, arith}
use Rattle.tip_element.specs.Counts.{join_below}
use Rattle.tip_shelf.proofs.Strips.{same-then}
use Rattle.tip_gather.specs.Gathering.{outs}
use Rattle.tip_array.proofs.Stepping.{outs_same}
use Rattle.tip_array.proofs.format.count_all_out.Goals as goal

pub loop-stripe-preserved : goal.loop-stripe-preserved
loop-stripe-preserved g c =
    let l = c.loop-stripe in
    let v = g.S.Shelf.meaning c.args.shelf.now in
    let o = c.count_out-count.ensures in
    record {
      same = same-then l.invariant.same o.same;
      count = rw add-one (ap (λ n. n + c.count_out-count.result) l.invariant.count ∙ ap (λ n. join_below 0 ◌+◌ l.stripe (outs v) + n) (o.value ∙ outs_same l.stripe l.invariant.same));
      low = omega (arith, l.invariant.low, o.most);
      lent = o.lent ∙ l.invariant.lent;
    }

use Rattle.std.proofs.Common.{sym, ◌∙◌}
use Rattle.tip_array.proofs.Stepping.{outs_same}
use Rattle.tip_array.proofs.Updating.{updated_same}
use Rattle.tip_array.proofs.write.write_cell.Goals as goal

pub returns-clause-put : goal.returns-clause-put
returns-clause-put g c =
    let m = g.S.Shelf.meaning in
    record {
      u = m c.find_element.new.shelf;
      old = c.in_ok-old.old;
      fared = c.find_element.ensures.fared;
      done = (c.in_ok-old.ensures.found, updated_same c.update.ensures.updated c.count_out.ensures.same, c.count_out.ensures.value ∙ sym (outs_same c.args.stripe c.count_out.ensures.same));
    }

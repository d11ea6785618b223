use Rattle.tip_array.proofs.Histories.{all_ran}
use Rattle.tip_array.proofs.array.Array.run.Goals as goal

pub returns-clause-ran : goal.returns-clause-ran
returns-clause-ran g c = all_ran g.S.Element.Element.laws (g.met.S.Shelf.sound c.args.self.now.shelf) c.run_all.ensures.history

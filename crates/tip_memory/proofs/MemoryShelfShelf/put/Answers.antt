use Rattle.std.proofs.Common.{rules}
use Rattle.tip_memory.proofs.Calling.{memory_put}
use Rattle.tip_memory.proofs.MemoryShelfShelf.put.Goals as goal

pub returns-clause-act : goal.returns-clause-act
returns-clause-act g c = memory_put g.E.Element.zero c.args.self.now c.args.stripe c.args.column _ c.args.row c.in-Some.index c.args.element _ (search rules) (search rules)

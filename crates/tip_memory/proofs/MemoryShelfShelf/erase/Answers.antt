use Rattle.std.proofs.Common.{rules, arith}
use Rattle.tip_memory.proofs.Calling.{memory_erased}
use Rattle.tip_memory.proofs.MemoryShelfShelf.erase.Goals as goal

pub returns-clause-act : goal.returns-clause-act
returns-clause-act g c = memory_erased g.E.Element.zero c.args.self.now c.args.stripe c.args.column c.in-Some.spot (search rules) (search rules) _ _ (λ gone. grind (arith, gone, c.state_of.ensures)) (search rules)

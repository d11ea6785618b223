use Rattle.std.proofs.Common.{rules}
use Rattle.tip_memory.proofs.Serving.{memory_pulled}
use Rattle.tip_memory.proofs.MemoryShelfServiced.pull.Goals as goal

pub returns-clause-act : goal.returns-clause-act
returns-clause-act g c = search (rules, memory_pulled)

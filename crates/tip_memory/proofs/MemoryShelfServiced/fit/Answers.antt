use Rattle.std.proofs.Common.{rules}
use Rattle.tip_memory.proofs.Serving.{memory_fitted}
use Rattle.tip_memory.proofs.MemoryShelfServiced.fit.Goals as goal

pub returns-clause-act : goal.returns-clause-act
returns-clause-act g c = search (rules, memory_fitted)

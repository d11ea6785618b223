use Rattle.std.proofs.Common.{rules}
use Rattle.tip_memory.proofs.Sizing.{length_stop}
use Rattle.tip_memory.proofs.MemoryShelf.new.Goals as goal

pub returns-else-fits-clause-stop : goal.returns-else-fits-clause-stop
returns-else-fits-clause-stop g c = length_stop c.args.geometry.now c.args.cells c.args.statuses c.over-shelf.result c.over-shelf.ensures (search rules)

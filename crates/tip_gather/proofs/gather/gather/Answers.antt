use Rattle.std.proofs.Common.{sym, ◌∙◌, arith}
use Rattle.tip_gather.proofs.Counting.{all_asked}
use Rattle.tip_gather.proofs.Stopping.{length_stop, stripe_stop}
use Rattle.tip_gather.proofs.gather.gather.Goals as goal

pub returns-then-cells-clause-stop : goal.returns-then-cells-clause-stop
returns-then-cells-clause-stop g c = length_stop _ _ _ _ c.geometry-geometry.ensures (λ e. c.if-cells.true (e ∙ sym c.cells.ensures))

pub returns-then-stripe-stripes-clause-stop : goal.returns-then-stripe-stripes-clause-stop
returns-then-stripe-stripes-clause-stop g c = stripe_stop _ _ _ _ c.geometry-geometry.ensures (c.if-cells.false ∙ c.cells.ensures) (omega (arith, c.stripes.ensures.value))

pub returns-clause-calls : goal.returns-clause-calls
returns-clause-calls g c =
    let e = c.read_held.ensures in
    all_asked e.read.fared.kept.prime e.calls c.columns_out.ensures.calls

use Rattle.std.proofs.Common.{ap, ◌∙◌, arith}
use Rattle.tip_code.proofs.Sizes.{facts}
use Rattle.tip_code.specs.Geometry.{cells_in}
use Rattle.tip_array.proofs.Finding.{gather_none}
use Rattle.tip_array.proofs.Filling.{remade}
use Rattle.tip_array.proofs.rebuild.rebuild_stripe.Goals as goal

pub returns-in_err-lost-clause-made : goal.returns-in_err-lost-clause-made
returns-in_err-lost-clause-made g c =
    let same = c.columns_blank-blank.ensures.picked.same.kept in
    absurd (gather_none _ (c.split_at_mut-cells.ensures.front_len ∙ c.cells.ensures ∙ ap cells_in c.geometry.ensures.prime) (omega (arith, c.requires.there, same.stripes)) c.in_err-lost.ensures.stop.this)

pub returns-clause-made : goal.returns-clause-made
returns-clause-made g c =
    remade c.fill_solved.result (omega (arith, c.geometry.ensures.prime, (facts c.geometry.result).high)) c.columns_blank-blank.ensures.picked c.in_ok-lost.ensures.gathered c.fill_solved.ensures.done

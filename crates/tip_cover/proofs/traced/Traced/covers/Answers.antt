use Rattle.std.proofs.Common.{rules}
use Rattle.tip_code.proofs.Sizes.{valid}
use Rattle.tip_cover.proofs.Covering.{looked_covers}
use Rattle.tip_cover.proofs.traced.Traced.covers.Goals as goal

pub returns : goal.returns
returns c =
    let located = c.locate.ensures in
    looked_covers _ (valid c.args.self.now.geometry) _ _ c.args.place c.locate.result c.is_ok_and.result _ located.stop located.value c.is_ok_and.ensures (λ cell called. search rules)

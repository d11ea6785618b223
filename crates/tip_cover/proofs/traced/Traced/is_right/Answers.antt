use Rattle.std.proofs.Common.{rules}
use Rattle.tip_code.proofs.Sizes.{valid}
use Rattle.tip_cover.proofs.Comparing.{looked_right}
use Rattle.tip_cover.proofs.traced.Traced.is_right.Goals as goal

pub returns : goal.returns
returns c =
    let stripe = c.args.self.now in
    looked_right _ (valid stripe.geometry) stripe.few _ _ c.find.result _ c.find.ensures (search rules)

use Rattle.std.proofs.Common.{ℕ, ap, ◌∙◌}
use Rattle.tip_code.proofs.Sizes.{valid}
use Rattle.tip_cover.proofs.Tracing.{traced, counted}
use Rattle.tip_cover.proofs.traced.Traced.find.Goals as goal
use Rattle.tip_element.specs.Traces.{has}

pub returns : goal.returns
returns c =
    let stripe = c.args.self.now in
    let at = c.in_ok-chain.ensures in
    let found = c.parity-found.ensures in
    let cover = c.covered-places.ensures in
    record {
      chain = at;
      found = found;
      cover = cover;
      encoded = λ g own is.
          let alike = λ (k : ℕ). ap (λ s. has s k) found ∙ traced _ (valid stripe.geometry) _ _ at.line g own _ is _ _ cover k in
          (alike, counted _ stripe.few _ _ _ _ _ alike cover);
    }

use Rattle.std.proofs.Common.{◌≡◌, sym, ◌∙◌, arith}
use Rattle.tip_code.proofs.Sizes.{valid}
use Rattle.tip_code.specs.Geometry.{prime_of, places_in}
use Rattle.tip_cover.proofs.Covering.{covered_same, covered_more, covered_all}
use Rattle.tip_cover.proofs.traced.Traced.covered.Goals as goal
use Rattle.tip_cover.proofs.traced.Traced.covered.Goals.{then-covers, else-covers}

pub loop-place-preserved : goal.loop-place-preserved
loop-place-preserved c =
    let listed = valid c.args.self.now.geometry in
    let before = c.loop-place in
    elim c.if-covers.branch [
      | then-covers w ↦
          rw (w.set-is, w.count-is)
          (covered_more _ listed _ _ _ _ before.set w.own.result _ (λ r q at. sym w.if-covers.true ∙ c.covers.ensures r q at) w.own.ensures w.join-set.ensures.either before.invariant)
      | else-covers w ↦
          rw (w.set-is, w.count-is)
          (covered_same _ listed _ _ _ _ _ (λ r q at. sym w.if-covers.false ∙ c.covers.ensures r q at) before.invariant)
    ]

pub returns : goal.returns
returns c =
    let g = c.args.self.now.geometry in
    let all : c.loop-place.place ≡ places_in (prime_of g) = omega (arith, c.places-place-end.ensures) in
    covered_all _ (valid g) _ _ _ _ (rw all at c.loop-place.invariant)

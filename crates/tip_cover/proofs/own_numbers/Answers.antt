use Rattle.std.proofs.Common.{arith}
use Rattle.tip_code.specs.Geometry.{prime_of}
use Rattle.tip_cover.proofs.Covering.{places_traced}
use Rattle.tip_cover.proofs.own_numbers.Goals as goal

pub own-requires : goal.own-requires
own-requires c =
    omega (arith, places_traced (prime_of c.args.geometry) (c.in_ok-check_size.ensures.fits).0, (c.in_ok-check_size.ensures.fits).1, c.loop-place-test.true, c.loop-place.auto.place-end, c.loop-place.auto.values)

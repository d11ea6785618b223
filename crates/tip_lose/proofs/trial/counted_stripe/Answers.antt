use Rattle.std.proofs.Common.{arith, rules, drop, length}
use Rattle.tip_code.proofs.Sizes.{valid}
use Rattle.tip_code.specs.Geometry.{prime_of}
use Rattle.tip_lose.proofs.Losing.{counted_is, places_few}
use Rattle.tip_lose.proofs.trial.counted_stripe.Goals as goal

pub returns : goal.returns
returns c =
    let v = c.in_ok-cells.cells in
    let cells = c.encode.new.cells in
    counted_is (prime_of c.args.geometry) v.len c.in_ok-values.values.items cells (drop (length cells) v.items) (valid c.args.geometry) (search rules) (search rules) (search rules) (search rules)

pub counted-requires : goal.counted-requires
counted-requires c = omega (arith, c.places.ensures, places_few c.args.geometry)

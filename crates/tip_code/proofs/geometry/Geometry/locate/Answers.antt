use Rattle.std.proofs.Common.{sym, ◌∙◌}
use Rattle.tip_code.specs.Geometry.{prime_of}
use Rattle.tip_code.proofs.Numbers.{place_first, place_none}
use Rattle.tip_code.proofs.geometry.Geometry.locate.Goals as goal

pub returns-then-not-has_place-clause-stop : goal.returns-then-not-has_place-clause-stop
returns-then-not-has_place-clause-stop c =
    place_first (prime_of c.args.self) c.args.place (sym c.has_place.ensures ∙ c.if-not-has_place.true)

pub returns-clause-stop : goal.returns-clause-stop
returns-clause-stop c =
    place_none (prime_of c.args.self) c.args.place (sym c.has_place.ensures ∙ c.if-not-has_place.false)

use Rattle.std.proofs.Common.{length, sym, ◌∙◌}
use Rattle.tip_code.specs.Geometry.{prime_of}
use Rattle.tip_code.proofs.Encodings.{encode_first, encode_none}
use Rattle.tip_code.proofs.encode.encode.Goals as goal

pub returns-then-not-is_sized-clause-stop : goal.returns-then-not-is_sized-clause-stop
returns-then-not-is_sized-clause-stop g c =
    encode_first (prime_of c.args.geometry) (length c.args.values.now) (length c.args.cells.now) (sym c.is_sized.ensures ∙ c.if-not-is_sized.true)

pub returns-clause-stop : goal.returns-clause-stop
returns-clause-stop g c =
    encode_none (prime_of c.args.geometry) (length c.args.values.now) (length c.args.cells.now) (sym c.is_sized.ensures ∙ c.if-not-is_sized.false)

use Rattle.std.proofs.Common.{arith, subst}
use Rattle.tip_store.specs.Pasting.{Pasted}
use Rattle.tip_image.proofs.words.write_word.Goals as goal

pub returns-clause-written : goal.returns-clause-written
returns-clause-written c = subst (λ es. Pasted 0 c.args.at es c.args.bytes.now c.paste.new.buffer) c.bytes_of.ensures (c.paste.ensures.within (grind (arith, c.requires, c.bytes_of.ensures)) 0)

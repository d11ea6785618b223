use Rattle.std.proofs.Common.{rules, arith, subst, ◌*◌, ◌-◌}
use Rattle.tip_code.specs.Geometry.{prime_of}
use Rattle.tip_store.specs.Pasting.{Pasted}
use Rattle.tip_memory.proofs.Calling.{memory_restored, strip_within, first_cell}
use Rattle.tip_memory.proofs.MemoryShelfShelf.restore.Goals as goal

-- what is written, from the first cell of the strip on
loaded : (g : _) (c : goal.After-advance g) → Pasted g.E.Element.zero (c.in-Some.spot.number * (prime_of c.args.self.now.geometry.now - 1)) c.args.elements.now c.args.self.now.cells.now c.paste.new.buffer
loaded g c =
    let all = strip_within g.E.Element.zero c.args.self.now c.args.stripe c.args.column c.in-Some.spot (search rules) (search rules) in
    subst (λ x. Pasted g.E.Element.zero (c.in-Some.spot.number * x) c.args.elements.now c.args.self.now.cells.now c.paste.new.buffer) c.rows-rows.ensures (c.paste.ensures.within (grind (arith, all, c.rows-rows.ensures)) g.E.Element.zero)

pub returns-clause-act : goal.returns-clause-act
returns-clause-act g c = memory_restored g.E.Element.zero c.args.self.now c.args.stripe c.args.column c.in-Some.spot (search rules) (search rules) _ _ _ _ (search rules) (search rules) (loaded g c) (search rules)

pub returns-clause-performs : goal.returns-clause-performs
returns-clause-performs g c =
    let start = first_cell g.E.Element.zero c.args.self.now c.args.stripe c.args.column c.in-Some.spot (search rules) (search rules) in
    (subst (λ a. Pasted g.E.Element.zero a c.args.elements.now c.args.self.now.cells.now c.paste.new.buffer) start (loaded g c), search rules)

use Rattle.std.proofs.Common.{ap, ◌∙◌, arith}
use Rattle.tip_code.specs.Encoding.{line_join}
use Rattle.tip_code.specs.Stripe.{stripe_of}
use Rattle.tip_code.specs.declared.chain.Direction.TheVariants.{Row}
use Rattle.tip_code.proofs.Cells.{data_facts}
use Rattle.tip_code.proofs.Data.{line_same}
use Rattle.tip_solve.proofs.recover.recover_rows.Goals as goal

pub returns-clause-here : goal.returns-clause-here
returns-clause-here g c r h =
    let m = g.E.Element in
    let s = c.args.stripe.now in
    let p = s.prime.number in
    let X = stripe_of m.zero p s.cells.now in
    let Z = stripe_of m.zero p c.clear_column.new.cells in
    c.write_column.ensures.here r h ∙ c.read_chains.ensures.chain r h
    ∙ ap (λ x. m.join x (line_join m.zero m.join p Z Row r)) (c.clear_column.ensures.here r h)
    ∙ m.laws.neutral (line_join m.zero m.join p Z Row r)
    ∙ line_same m.zero m.join p Z X Row r (λ i j x. let q = data_facts p i j x in c.clear_column.ensures.elsewhere i j
    q.row (omega (arith, q.column)) (λ e. omega (arith, q.column)))

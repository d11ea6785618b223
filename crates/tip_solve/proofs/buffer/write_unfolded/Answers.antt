use Rattle.std.proofs.Common.{◌≡◌, ◌-◌, ◌∙◌, ⊎_elim, arith}
use Rattle.std.proofs.lemmas.Bool.{cases_eq}
use Rattle.std.proofs.lemmas.List.{get_or_read}
use Rattle.tip_code.proofs.Tables.{prime_facts}
use Rattle.tip_algebra.proofs.Unfolding.{row_up_to, top_up_to}
use Rattle.tip_solve.proofs.buffer.write_unfolded.Goals as goal

pub returns-then-column-gt0-clause-here : goal.returns-then-column-gt0-clause-here
returns-then-column-gt0-clause-here g c W held r h =
    let m = g.E.Element in
    let p = c.args.prime.number in
    let facts = prime_facts p c.args.prime.listed in
    let k = c.args.column in
    let low = c.requires.0 in
    let some = c.if-column-gt0.true in
    let xs = c.args.run.now in
    let top = get_or_read xs (p - 1) c.index-run-prime.result
    (omega (arith, low, c.requires.2)) c.index-run-prime.is m.zero in
    ⊎_elim
    (λ (e : r ≡ k - 1).
    rw e (c.write_cell.ensures.here ∙ top ∙ top_up_to m.laws p W k low facts.odd some xs held))
    (λ (e : r ≡ k - 1 → ⊥).
    c.write_cell.ensures.elsewhere r k h (omega arith) (λ same _. e same) ∙ c.write_column.ensures.here r h
    ∙ row_up_to m.laws p W k low facts.odd xs held r h (λ d. e (omega arith)))
    (cases_eq r (k - 1))

pub returns-else-column-gt0-clause-here : goal.returns-else-column-gt0-clause-here
returns-else-column-gt0-clause-here g c W held r h =
    let m = g.E.Element in
    let p = c.args.prime.number in
    c.write_column.ensures.here r h
    ∙ row_up_to m.laws p W c.args.column c.requires.0 (prime_facts p c.args.prime.listed).odd c.args.run.now held r h
    (λ d. omega (arith, c.if-column-gt0.false))

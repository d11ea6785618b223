use Rattle.std.proofs.Common.{◌≡◌, ℕ, ◌-◌, ◌<◌, true, sym, ap, ◌∙◌, subst}
use Rattle.tip_code.specs.Encoding.{line_join}
use Rattle.tip_code.specs.Stripe.{stripe_of}
use Rattle.tip_code.specs.declared.chain.Direction.TheVariants.{Row}
use Rattle.tip_columns.specs.Sets.{in_set}
use Rattle.tip_solve.specs.Writing.{Elsewhere}
use Rattle.tip_solve.proofs.Recovering.{solved_set}
use Rattle.tip_solve.proofs.recover.recover_with.Goals as goal

pub returns-then-has-clause-solved : goal.returns-then-has-clause-solved
returns-then-has-clause-solved g c =
    let m = g.E.Element in
    let p = c.args.stripe.now.prime.number in
    let lost = in_set c.args.lost in
    let at = stripe_of m.zero p in
    let same = c.recover_below.ensures.same.1 in
    let Y = c.recover_below.new.stripe.cells.now in
    let Q = c.recover_rows.new.stripe.cells.now in
    let on : lost p ≡ true = ap lost (sym same) ∙ sym c.if-has.ensures in
    solved_set m.zero m.join p lost (at c.args.stripe.now.cells.now) (at Y) (at Q) c.recover_below.ensures.solved on
    (subst (λ (n : ℕ). Elsewhere n n (stripe_of m.zero n Y) (stripe_of m.zero n Q)) same
    c.recover_rows.ensures.elsewhere)
    (subst (λ (n : ℕ). (r : ℕ) → r < n - 1 → stripe_of m.zero n Q r n
    ≡ line_join m.zero m.join n (stripe_of m.zero n Y) Row r) same c.recover_rows.ensures.here)

use Rattle.std.proofs.Common.{◌≡◌}
use Rattle.tip_code.specs.Stripe.{stripe_of}
use Rattle.tip_array.specs.Refilling.{FilledInBelow}
use Rattle.tip_array.proofs.rebuild.fill.Given as goal

abbrev pub invariant-loop-column : goal.invariant-loop-column
invariant-loop-column g l =
    let m = g.S.Shelf in
    let none = g.S.Element.Element.zero in
    record {
      filled : FilledInBelow none (m.meaning l.fn.shelf) (m.meaning l.shelf) l.stripe l.column (stripe_of none (m.meaning l.fn.shelf).prime l.cells);
      lent : m.lent l.shelf ≡ m.lent l.fn.shelf;
    }

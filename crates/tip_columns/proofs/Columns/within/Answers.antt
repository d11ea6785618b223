use Rattle.std.proofs.Common.{◌≡◌, ℕ, ◌≤◌, true, eqb, sym, subst, arith}
use Rattle.tip_element.specs.Laws.{Exactly}
use Rattle.tip_columns.specs.Sets.{in_set}
use Rattle.tip_columns.proofs.Masks.{ends_at, ends_last}
use Rattle.tip_columns.proofs.Columns.within.Goals as goal

pub returns-then-last-ge63 : goal.returns-then-last-ge63
returns-then-last-ge63 c = ends_last c.args.self.0 c.args.last (omega arith) c.if-last-ge63.true

pub returns-else-last-ge63 : goal.returns-else-last-ge63
returns-else-last-ge63 c =
    subst (λ (q : ℕ). Exactly (eqb q 0) ((k : ℕ) → in_set c.args.self k ≡ true → k ≤ c.args.last)) (sym c.above.ensures)
    (ends_at c.args.self.0 c.args.last (omega arith))

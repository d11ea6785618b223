use Rattle.std.proofs.Common.{◌≡◌, ℕ, ◌-◌, ◌<◌}
use Rattle.tip_algebra.specs.Cyclic.{Steps}
use Rattle.tip_algebra.proofs.Walk.{walk_place, Walked}
use Rattle.tip_solve.proofs.walk.divide.Given as goal

abbrev pub invariant-loop-turn : goal.invariant-loop-turn
invariant-loop-turn g l =
    let m = g.E.Element in
    let p = l.prime.number in
    (l.at ≡ walk_place p l.from l.step (l._turn - 1)) × (l.at < p)
    × ((s : ℕ → g.row.E.Denot) → Steps m.zero m.join p l.step l.joins s
    → (l.joined ≡ m.join (s l.at) (s l.from)) × Walked m.zero m.join p l.from l.step l._turn l.quotient s)

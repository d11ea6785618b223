use Rattle.std.proofs.Common.{◌≡◌, take}
use Rattle.std.specs.Vec.{vec_len, vec_capacity}
use Rattle.tip_array.specs.Runs.{History}
use Rattle.tip_array.proofs.array.Array.run_all.Given as goal

abbrev pub invariant-loop-call : goal.invariant-loop-call
invariant-loop-call g l =
    let m = g.S.Shelf in
    let e = g.S.Element.Element in
    record {
      history : History e.zero e.join (m.meaning l.fn.self.shelf) (m.meaning l.self.shelf) (take l.call-index l.calls) l.fn.work l.work l.outcomes.items;
      count : vec_len l.outcomes ≡ l.call-index;
      room : vec_capacity l.outcomes ≡ vec_capacity l.fn.outcomes;
      prime : (m.meaning l.self.shelf).prime ≡ (m.meaning l.fn.self.shelf).prime;
      lent : m.lent l.self.shelf ≡ m.lent l.fn.self.shelf;
    }

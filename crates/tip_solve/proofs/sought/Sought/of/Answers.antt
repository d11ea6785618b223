use Rattle.tip_solve.proofs.Seeking.{seeks_three}
use Rattle.tip_solve.proofs.sought.Sought.of.Goals as goal

pub returns-in-Some-next_lost-2 : goal.returns-in-Some-next_lost-2
returns-in-Some-next_lost-2 c =
    let a = c.in-Some.ensures in
    let b = c.in-Some-next_lost.ensures in
    let d = c.in-Some-next_lost-2.ensures in
    seeks_three c.args.prime.number c.args.lost c.in-Some.first c.in-Some-next_lost.second c.in-Some-next_lost-2.last _ _ d.1 c.args.prime.high a.3 b.3 d.3 c.requires a.2 b.2 d.2

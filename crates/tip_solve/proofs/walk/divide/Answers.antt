use Rattle.std.proofs.Common.{◌≡◌, ◌+◌, ◌-◌, ◌≤◌, length, sym, ap, ◌∙◌, arith, length-set}
use Rattle.std.proofs.lemmas.List.{get_or_read}
use Rattle.tip_code.proofs.Tables.{prime_facts}
use Rattle.tip_algebra.proofs.Walk.{walk_place, first_place, next_place, walked_none, walked_next, walked_more, walked_all}
use Rattle.tip_solve.proofs.walk.divide.Goals as goal

pub loop-turn-init : goal.loop-turn-init
loop-turn-init g c =
    let m = g.E.Element in
    let p = c.args.prime.number in
    let k = c.args.from in
    let low = c.requires.walk.2 in (
      sym (first_place p k c.args.step low),
      low,
      λ s _. (
        c.zero-joined.ensures ∙ sym (m.laws.cancel (s k)),
        walked_none m.laws p k c.args.step
            c.args.quotient.now c.zero-joined.result s low c.zero-joined.ensures
            (omega (arith, low, c.requires.long.1)),
      ),
    )

pub loop-turn-preserved : goal.loop-turn-preserved
loop-turn-preserved g c =
    let m = g.E.Element in
    let p = c.args.prime.number in
    let k = c.args.from in
    let u = c.args.step in
    let i = c.loop-turn.at in
    let t = c.loop-turn._turn in
    let n = c.next_index-at.result in
    let en = c.next_index-at.ensures.value in
    let within = c.next_index-at.ensures.within in
    let y = c.loop-turn.quotient in
    let z = c.args.joins.now in
    let long : p ≤ length y = omega (
      arith,
      c.loop-turn.auto.quotient,
      length-set c.args.quotient.now k
          c.zero-joined.result,
      c.requires.long.1,
    ) in
    let turn : t + 1 - 1 ≡ t = omega arith in
    let rz = get_or_read z n c.index-joins-at.result (omega (arith, within, c.requires.long.0)) c.index-joins-at.is
    m.zero in
    let is = c.loop-turn.invariant.0 in
    let low = c.loop-turn.invariant.1 in (
      en ∙ next_place p k u t i c.loop-turn.auto._turn is ∙ ap (walk_place p k u) (sym turn),
      within,
      λ s steps.
          let before = c.loop-turn.invariant.2 s steps in
          let here = walked_next m.laws p k u i n z c.loop-turn.joined c.join-joined.result s low en before.0
          (c.join-joined.ensures ∙ ap (m.join c.loop-turn.joined) rz) steps in (
            here,
            walked_more m.laws p k u t i n y c.join-joined.result s c.loop-turn.auto._turn is en
                (omega (arith, within, long)) here before.1,
          ),
    )

pub returns : goal.returns
returns g c s steps =
    let p = c.args.prime.number in
    let walk = c.requires.walk in
    walked_all g.E.Element.laws p c.args.from c.args.step c.loop-turn.quotient s
    (prime_facts p c.args.prime.listed) walk.2 walk.0 walk.1
    (λ j l. (c.loop-turn.invariant.2 s steps).1 j (omega arith))

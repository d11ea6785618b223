use Rattle.std.proofs.Common.{◌≡◌, ℕ, ◌+◌, ◌-◌, ◌<◌, ◌≤◌, ◌++◌, List, length, get_or, take, drop, ◌∙◌, arith, rules, get_or-set_other, get_or-set_same}
use Rattle.std.proofs.lemmas.List.{places}
use Rattle.tip_code.specs.Encoding.{chain_join}
use Rattle.tip_code.specs.Stripe.{stripe_of}
use Rattle.tip_solve.proofs.Written.{part_long, accepted}
use Rattle.tip_solve.proofs.sums.read_chains.Goals as goal

pub returns : goal.returns
returns g c =
    let m = g.E.Element in
    let s = c.args.stripe.now in
    let p = s.prime.number in
    let run = c.args.run.now in
    let js = c.chain_joins-read.new.joins in
    let some : 3 ≤ p = s.prime.low in
    let long : length (take (p - 1) run) ≡ p - 1 = part_long (p - 1) 0 run (omega (arith, c.requires)) in
    let same : length js ≡ p - 1 = c.chain_joins-read.auto.joins ∙ long in
    let whole : p - 1 < length (js ++ drop (p - 1) run) = search (rules, places) in
    let read : (i : ℕ) → i < p - 1 → get_or js i m.zero ≡ chain_join m.zero m.join p (stripe_of m.zero p s.cells.now) c.args.direction i =
    accepted _ _ (length (take (p - 1) run)) (p - 1) c.chain_joins-read.result c.chain_joins-read.ensures.stop c.chain_joins-read.ensures.joins long in
    record {
      chain = λ i h.
          let here : get_or (js ++ drop (p - 1) run) i m.zero ≡ get_or js i m.zero = search (rules, places) in
          get_or-set_other (js ++ drop (p - 1) run) (p - 1) i c.zero.result m.zero (omega arith) ∙ here ∙ read i h;
      last = get_or-set_same (js ++ drop (p - 1) run) (p - 1) c.zero.result m.zero whole ∙ c.zero.ensures;
    }

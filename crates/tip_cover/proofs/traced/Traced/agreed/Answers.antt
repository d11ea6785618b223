use Rattle.std.proofs.Common.{◌≡◌, Bool, ap, ◌∙◌, arith, rules}
use Rattle.std.proofs.lemmas.Iterator.{YieldsList-from_range}
use Rattle.std.proofs.lemmas.Iterator.Consumers.{YieldsList-from_filter, count_from_yields_List}
use Rattle.tip_code.proofs.Sizes.{valid}
use Rattle.tip_code.specs.Geometry.{prime_of}
use Rattle.tip_code.specs.Stripe.{chains_in}
use Rattle.tip_cover.proofs.Comparing.{compared_all}
use Rattle.tip_cover.proofs.traced.Traced.agreed.Goals as goal
use Rattle.tip_element.specs.Laws.{Exactly}

-- what a call of the closure returns is what `is_right` returned
exactly_along : (a b : Bool) (P : Type 0) → b ≡ a → Exactly a P → Exactly b P
exactly_along a b P e h = rw e h

pub returns : goal.returns
returns c =
    let stripe = c.args.self.now in
    let p = prime_of stripe.geometry in
    compared_all p (valid stripe.geometry) stripe.cells.now c.count.result (λ test same.
    count_from_yields_List c.filter.result c.count.result c.count.ensures.ran
    (YieldsList-from_filter _ test (YieldsList-from_range 0 c.chains.result (chains_in p) (cc) (omega (arith, c.chains.ensures))) c.filter.ensures.closure
    (λ n b f called. (search rules, same called.shown.now b (search (rules, exactly_along)) ∙ ap test called.shows))))

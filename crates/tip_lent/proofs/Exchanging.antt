-- A get and a put, one after the other, are an exchange.
use Rattle.std.proofs.Common.{ℕ, Ok, Err, arith}
use Rattle.tip_shelf.specs.Meaning.{Meaning}
use Rattle.tip_shelf.specs.Calls.{Got, Put}
use Rattle.tip_shelf.specs.declared.shelf.Out.{Out}
use Rattle.tip_shelf.proofs.Strips.{kept-then, fares-then}
use Rattle.tip_lent.specs.Exchanges.{Exchanged}

module _ {E : Type 0} (v u w : Meaning E) (i c r : ℕ) (e : E) where
  pub exchanged : (old : E) → Got v u i c r (Ok old) → Put {A = Unit {0}} u w i c r e (Ok tt) → Exchanged v w i c r e (Ok old)
  exchanged old g p = grind (arith, kept-then, fares-then)

  pub nothing_got : (o : Out) → Got v u i c r (Err o) → Exchanged v u i c r e (Err o)
  nothing_got o g = grind (arith, kept-then, fares-then)

  pub nothing_put : (old : E) (o : Out) → Got v u i c r (Ok old) → Put {A = Unit {0}} u w i c r e (Err o) → Exchanged v w i c r e (Err o)
  nothing_put old o g p = grind (arith, kept-then, fares-then)

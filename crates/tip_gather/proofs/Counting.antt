-- How many calls look at a stripe.
use Rattle.std.proofs.Common.{◌≡◌, ℕ, ◌+◌, ◌-◌, ◌*◌, ◌≤◌, Result, refl, arith}
use Rattle.tip_shelf.specs.Performing.{ShelfCall, state_call, get_call, put_call, erase_call, restore_call, pull_call, fit_call, AtMost}
use Rattle.tip_shelf.specs.declared.shelf.Out.{Out}
use Rattle.tip_shelf.specs.declared.shelf.State.{State}
use Rattle.tip_shelf.proofs.Series.{at_most_one, at_most_then, at_most_of}
use Rattle.tip_gather.specs.Looking.{AsksState, AsksOrGets}

asks_or_gets : {E : Type 0} (i : ℕ) (k : ShelfCall E) → AsksState i k → AsksOrGets i k
asks_or_gets i (state_call j c a) h = h
asks_or_gets i (get_call j c r a) h = absurd h
asks_or_gets i (put_call j c r e a) h = absurd h
asks_or_gets i (erase_call j c a) h = absurd h
asks_or_gets i (restore_call j c es a) h = absurd h
asks_or_gets i (pull_call d) h = absurd h
asks_or_gets i (fit_call d a) h = absurd h

module _ {S E : Type 0} (performs : S → ShelfCall E → S → Type 0) where
  pub one_state :
      (s t : S) (i c : ℕ) (a : State) → performs s (state_call i c a) t → AtMost 1 (AsksState i) performs s t
  one_state s t i c a h = at_most_one performs (AsksState i) s (state_call i c a) t refl h

  pub one_get :
      (s t : S) (i c r : ℕ) (a : Result E Out) → performs s (get_call i c r a) t → AtMost 1 (AsksOrGets i) performs s t
  one_get s t i c r a h = at_most_one performs (AsksOrGets i) s (get_call i c r a) t refl h

module _ {S E : Type 0} {performs : S → ShelfCall E → S → Type 0} where
  pub states_alone : {s t : S} {i n : ℕ} → AtMost n (AsksState i) performs s t → AtMost n (AsksOrGets i) performs s t
  states_alone {i = i} h = at_most_of (AsksState i) (AsksOrGets i) (asks_or_gets i) h

  -- a column more: its state, and its elements where it is held
  pub column_asked :
      {s t u : S} {i : ℕ} (k p q : ℕ) →
      q ≡ p →
      4 ≤ p + 1 →
      AtMost (k * p) (AsksOrGets i) performs s t →
      AtMost 1 (AsksState i) performs t u →
      AtMost ((k + 1) * p) (AsksOrGets i) performs s u
  column_asked k p q e low h a = at_most_then ((k + 1) * p) h (states_alone a) (omega arith)

  pub column_read :
      {s t u w : S} {i : ℕ} (k p q : ℕ) →
      q ≡ p →
      4 ≤ p + 1 →
      AtMost (k * p) (AsksOrGets i) performs s t →
      AtMost 1 (AsksState i) performs t u →
      AtMost (q - 1) (AsksOrGets i) performs u w →
      AtMost ((k + 1) * p) (AsksOrGets i) performs s w
  column_read k p q e low h a b =
      at_most_then ((k + 1) * p) h (at_most_then p (states_alone a) b (omega (arith, e, low))) (omega arith)

  -- all columns, and then the states of all
  pub all_asked :
      {s t u : S} {i p q : ℕ} →
      q ≡ p →
      AtMost ((p + 1) * p) (AsksOrGets i) performs s t →
      AtMost (q + 1) (AsksState i) performs t u →
      AtMost ((p + 1) * (p + 1)) (AsksOrGets i) performs s u
  all_asked {p = p} e h a = at_most_then ((p + 1) * (p + 1)) h (states_alone a) (omega (arith, e))

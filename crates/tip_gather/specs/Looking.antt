-- Calls that look at a stripe of a shelf, and are to change nothing of it: i is the stripe.
use Rattle.std.specs.Prelude.{◌≡◌, ℕ}
use Rattle.tip_shelf.specs.Performing.{ShelfCall, state_call, get_call, put_call, erase_call, restore_call, pull_call, fit_call}

-- The call asks for the state of a strip of the stripe.
abbrev pub AsksState : {E : Type 0} → ℕ → ShelfCall E → Type 0
AsksState i (state_call j c a) = j ≡ i
AsksState i (get_call j c r a) = ⊥
AsksState i (put_call j c r e a) = ⊥
AsksState i (erase_call j c a) = ⊥
AsksState i (restore_call j c es a) = ⊥
AsksState i (pull_call d) = ⊥
AsksState i (fit_call d a) = ⊥

-- The call asks for the state of a strip of the stripe, or gets an element of one.
abbrev pub AsksOrGets : {E : Type 0} → ℕ → ShelfCall E → Type 0
AsksOrGets i (state_call j c a) = j ≡ i
AsksOrGets i (get_call j c r a) = j ≡ i
AsksOrGets i (put_call j c r e a) = ⊥
AsksOrGets i (erase_call j c a) = ⊥
AsksOrGets i (restore_call j c es a) = ⊥
AsksOrGets i (pull_call d) = ⊥
AsksOrGets i (fit_call d a) = ⊥

-- The status byte of a strip, and how events change it.
use Rattle.std.specs.Prelude.{ℕ, cond, ◌==◌}
use Rattle.tip_shelf.specs.declared.shelf.State.{State}
use Rattle.tip_shelf.specs.declared.shelf.State.TheVariants.{Held, Blank, Absent}
use Rattle.tip_store.specs.declared.status.Event.{Event}
use Rattle.tip_store.specs.declared.status.Event.TheVariants.{Pull, Fit, Erase, Restore}

-- What a status byte says: 2 that the strip is held, 1 that it is blank, and any other that it is absent.
abbrev pub state_for : ℕ → State
state_for b = cond (b == 2) Held (cond (b == 1) Blank Absent)

-- The status byte that is written for a state.
abbrev pub status_of : State → ℕ
status_of Absent = 0
status_of Blank = 1
status_of Held = 2

-- The state of a strip after an event.
abbrev pub after : State → Event → State
after s Pull = Absent
after Absent Fit = Blank
after Blank Fit = Blank
after Held Fit = Held
after Absent Erase = Absent
after Blank Erase = Blank
after Held Erase = Blank
after Absent Restore = Absent
after Blank Restore = Held
after Held Restore = Held

-- A status byte after an event.
abbrev pub moved : Event → ℕ → ℕ
moved e b = status_of (after (state_for b) e)

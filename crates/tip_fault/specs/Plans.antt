-- Planned losses.
use Rattle.std.specs.Prelude.{ℕ, ◌==◌, List, filter, map, take}
use Rattle.tip_fault.specs.declared.losses.Loss.{Loss}
use Rattle.tip_fault.specs.declared.losses.Losses.{Losses}

-- The losses in a table, in the order of the plan.
abbrev pub losses_in : Losses → List Loss
losses_in t = take t.count t.records

-- The devices that are planned for access n, in the order of the plan.
abbrev pub devices_for : ℕ → List Loss → List ℕ
devices_for n ls = map (λ l. l.device) (filter (λ l. l.access == n) ls)

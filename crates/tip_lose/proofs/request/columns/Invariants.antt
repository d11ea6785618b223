use Rattle.std.proofs.Common.{take}
use Rattle.std.specs.List.{All}
use Rattle.tip_lose.specs.Asking.{IsNumber, Gathered}
use Rattle.tip_lose.proofs.request.columns.Given as goal

-- the words so far are numbers, and their set is gathered
abbrev pub invariant-loop-before : goal.invariant-loop-before
invariant-loop-before l = record { numbers : All IsNumber (take l.before l.words); gathered : Gathered (take l.before l.words) l.all }

use Rattle.std.proofs.Common.{◌≡◌, length}
use Rattle.presses.specs.Choosing.{is_taken_from}
use Rattle.taken_records.proofs.are_taken.Given as goal

-- the records that are left are taken, from where the loop stands, just where all of them are
abbrev pub invariant-loop-left : goal.invariant-loop-left
invariant-loop-left l = is_taken_from l.due l.kept l.left ≡ is_taken_from 0 l.fn.states l.records

abbrev pub decreases-loop-left : goal.decreases-loop-left
decreases-loop-left l = length l.left

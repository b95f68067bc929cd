use Rattle.std.proofs.Common.{◌+◌, ◌-◌, ◌≤◌, length}
use Rattle.in_place.proofs.run_parts.Given as goal

-- an entry has two bytes and more, so the numbers do not outrun the file
abbrev pub invariant-loop-from : goal.invariant-loop-from
invariant-loop-from l = (l.from ≤ length l.file) × (l.number ≤ l.from + 1) × (l.at ≤ length l.page)

abbrev pub decreases-loop-from : goal.decreases-loop-from
decreases-loop-from l = length l.file - l.from

use Rattle.std.proofs.Common.{◌≡◌, length}
use Rattle.readings.proofs.print_lines.Given as goal

abbrev pub invariant-loop : goal.invariant-loop
invariant-loop l = length l.space ≡ length l.initial.space

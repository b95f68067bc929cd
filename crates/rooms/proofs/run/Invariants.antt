use Rattle.std.proofs.Common.{◌≡◌, length}
use Rattle.rooms.proofs.run.Given as goal

abbrev pub invariant-loop : goal.invariant-loop
invariant-loop l = length l.space ≡ length l.initial.space

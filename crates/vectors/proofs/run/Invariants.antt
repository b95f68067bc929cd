use Rattle.std.proofs.Common.{◌≡◌, length}
use Rattle.vectors.proofs.run.Given as goal

abbrev pub invariant-loop-number : goal.invariant-loop-number
invariant-loop-number l = length l.space ≡ length l.initial.space

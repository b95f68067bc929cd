use mathlib.Core.Path.{◌≡◌}
use lib.ListN.{take}
use Rattle.digits.specs.Digits.{joined}
use Rattle.integers.proofs.found.join.Given as goal

abbrev pub invariant-loop-b : goal.invariant-loop-b
invariant-loop-b l = l.v ≡ joined l.head (take l.b-index l.bytes)

use Prim.Native.Nat.{◌+◌, ◌-◌}
use mathlib.Core.Path.{◌≡◌}
use Rattle.integers.specs.Integer.{fewest}
use Rattle.integers.proofs.common.fewest_of.Given as goal

abbrev pub invariant-loop-c : goal.invariant-loop-c
invariant-loop-c l = fewest 7 l.tops l.n ≡ l.c + fewest (7 - l.c) l.tops l.v

use Prim.Native.Nat.{◌/◌, ◌^◌}
use mathlib.Core.Path.{◌≡◌}
use Rattle.integer_writers.proofs.Fill.{filled}
use Rattle.integer_writers.proofs.writer.fill.Given as goal

abbrev pub invariant-loop-j : goal.invariant-loop-j
invariant-loop-j l = (l.v ≡ l.m / 256 ^ l.j) × (l.out ≡ filled l.initial.out l.c l.j l.m)

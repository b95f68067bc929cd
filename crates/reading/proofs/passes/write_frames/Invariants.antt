use Prim.Native.Nat.{◌-◌}
use Rattle.reading.proofs.Writing.{Writing}
use Rattle.reading.proofs.passes.write_frames.Given as goal

abbrev pub invariant-loop : goal.invariant-loop
invariant-loop l = Writing l.n l.frames l.initial.out l.out l.pos l.left (l.n - l.counter)

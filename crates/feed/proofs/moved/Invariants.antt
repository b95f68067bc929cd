use Prim.Native.Nat.{◌≤◌}
use lib.ListN.{length}
use Rattle.feed.proofs.Moving.{Moving}
use Rattle.feed.proofs.moved.Given as goal

abbrev pub invariant-loop-from : goal.invariant-loop-from
invariant-loop-from l = (l.from ≤ l.fn.window.end) × (l.fn.window.end ≤ length l.initial.space) × Moving l.fn.window.at l.initial.space l.from l.to l.space

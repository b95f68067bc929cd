-- The loop has counted the entries before the place where it stands.
-- Assumes nothing.
use Prim.Native.Nat.{◌-◌}
use lib.ListN.{length}
use Rattle.bursts.proofs.Counting.{Counts}
use Rattle.bursts.proofs.count_entries.Given as goal

abbrev pub invariant-loop-bytes : goal.invariant-loop-bytes
invariant-loop-bytes l = Counts l.buffer l.entries l.bytes

abbrev pub decreases-loop-bytes : goal.decreases-loop-bytes
decreases-loop-bytes l = length l.buffer - l.bytes

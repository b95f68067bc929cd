-- `feed::moved` meets its contract: it writes below where it reads.
-- Assumes nothing.
use native.Mathlib.Omega.{arith}
use Rattle.feed.proofs.Moving.{moving-next}
use Rattle.feed.proofs.moved.Goals as goal

pub loop-from-preserved : goal.loop-from-preserved
loop-from-preserved c = (omega arith, c.loop-from.invariant.1, moving-next _ _ _ _ _ c.loop-from.invariant.2 (omega arith))

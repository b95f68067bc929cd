-- `reading::passes::write_frames` meets its contract. The loop keeps: what is to come, at the front of what is left and laid from pos on, leaves
-- the output that the whole does.
-- Assumes nothing.
use native.Mathlib.Omega.{arith}
use Rattle.reading.proofs.Writing.{writing-next, writing-none, writing-done}
use Rattle.reading.proofs.passes.write_frames.Goals as goal

pub returns-in_default : goal.returns-in_default
returns-in_default c = writing-none _ _ _ _ _ _ _ c.loop.invariant (omega arith) c.in_default.ensures.value

pub loop-preserved : goal.loop-preserved
loop-preserved c = writing-next _ _ _ _ _ _ _ c.loop.invariant c.in-Some.head c.in-Some.contacts c.in-Some.behind _ _ _ (omega arith) c.in-Some.ensures.value c.write_frame-written.ensures

pub returns : goal.returns
returns c = writing-done _ _ _ _ _ _ _ c.loop.invariant (omega arith)

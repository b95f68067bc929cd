-- `openings::listing::mark_active` meets its contract. The loop keeps: the marks before i are put, the others are as they were.
-- Assumes nothing.
use mathlib.Core.Path.{◌∙◌}
use native.Mathlib.Omega.{arith}
use Rattle.openings.proofs.Listed.{mark-put, marked_all}
use Rattle.openings.proofs.listing.mark_active.Goals as goal

pub loop-i-preserved : goal.loop-i-preserved
loop-i-preserved c = mark-put _ _ _ _ _ (omega arith) (omega arith) c.loop-i.invariant c.mark_of.ensures

pub returns : goal.returns
returns c = c.loop-i.invariant ∙ marked_all c.args.states.now c.args.held.now c.loop-i.i (omega arith) (omega arith)

-- `touch_events::tally` meets its contract.
-- Assumes nothing.
use Rattle.touch_events.proofs.Touching.{tallies}
use Rattle.touch_events.proofs.tally.Goals as goal

pub returns : goal.returns
returns c =
    tallies _ _ _ c.is_untimed-untimed.ensures _ c.count_active-active.ensures.0 (λ i. (c.type_inv.frames i).fits) _ _ _ _ _ (rw c.requires at c.run_frames-run.ensures)

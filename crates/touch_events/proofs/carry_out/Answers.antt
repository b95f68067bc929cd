-- `touch_events::carry_out` meets its contract.
-- Assumes nothing.
use Rattle.touch_events.proofs.Touching.{carries}
use Rattle.touch_events.proofs.carry_out.Goals as goal

pub returns : goal.returns
returns c =
    carries _ _ _ c.is_untimed-untimed.ensures _ c.count_active-active.ensures.0 (λ i. (c.type_inv.frames i).fits) _ _ _ _ _ c.run_frames-run.ensures _ _ _ _ c.begun_after.ensures c.ignoring_in.ensures c.time_for.ensures c.answer_to-answer.ensures

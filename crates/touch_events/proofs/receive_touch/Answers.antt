-- `touch_events::receive_touch` meets its contract.
-- Assumes nothing.
use mathlib.Core.Path.{sym, ◌∙◌}
use Rattle.receiver.proofs.Answering.{turned_same}
use Rattle.touch_events.proofs.Touching.{touch-refused, touch-settled, touch-ample}
use Rattle.touch_events.proofs.receive_touch.Goals as goal

pub returns-in-Err : goal.returns-in-Err
returns-in-Err c =
    touch-refused _ _ _ c.is_judged-judged.ensures _ _ _ _ c.in-Err.ensures.value c.number.ensures (turned_same _ _ _ c.refuse.ensures)

pub returns-then-is_ample : goal.returns-then-is_ample
returns-then-is_ample c =
    touch-ample _ _ _ c.is_judged-judged.ensures _ _ _ _ c.in-Ok.ensures.value _ (sym c.is_ample.ensures ∙ c.if-is_ample.true) c.carry_out.ensures

pub returns-then-marks-eq0 : goal.returns-then-marks-eq0
returns-then-marks-eq0 c =
    touch-settled _ _ _ c.is_judged-judged.ensures _ _ _ _ c.in-Ok.ensures.value _ c.carry_counted.ensures

pub returns : goal.returns
returns c =
    touch-settled _ _ _ c.is_judged-judged.ensures _ _ _ _ c.in-Ok.ensures.value _ c.carry_counted-2.ensures

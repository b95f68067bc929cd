-- `sending::write_touch` meets its contract: the parts are taken out, and put together again.
-- Assumes nothing.
use Rattle.sending.proofs.write_touch.Goals as goal

pub returns : goal.returns
returns c =
    rw c.of_parts.ensures (rw c.marks_of-marks.ensures at c.write_touch_parts-said.ensures)

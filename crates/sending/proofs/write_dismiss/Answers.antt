-- `sending::write_dismiss` meets its contract: the parts are taken out, and put together again.
-- Assumes nothing.
use Rattle.sending.proofs.write_dismiss.Goals as goal

pub returns : goal.returns
returns c =
    rw c.of_parts.ensures (rw c.marks_of-marks.ensures at c.write_dismiss_parts-said.ensures)

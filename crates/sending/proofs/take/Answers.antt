-- `sending::take` meets its contract: the marks are taken out, and put together with the contacts again.
-- Assumes nothing.
use Rattle.panels.specs.Panel.{panel_table}
use Rattle.sending.proofs.take.Goals as goal

pub returns : goal.returns
returns c =
    rw c.of_parts.ensures (rw c.marks_of.ensures at (c.take_parts-heard.ensures (panel_table c.args.panel)))

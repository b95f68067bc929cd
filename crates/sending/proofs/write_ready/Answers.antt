-- `sending::write_ready` meets its contract: the parts are taken out, and put together again.
-- Assumes nothing.
use Rattle.panels.specs.Panel.{panel_table}
use Rattle.sending.proofs.write_ready.Goals as goal

pub returns : goal.returns
returns c =
    rw c.of_parts.ensures (rw c.marks_of.ensures at (c.write_ready_parts-said.ensures (panel_table c.args.panel)))

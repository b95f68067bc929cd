-- `batch_lines::add_batch` meets its contract: three numbers.
-- Assumes nothing.
use Rattle.lines.proofs.Adding.{added_then}
use Rattle.batch_lines.proofs.add_batch.Goals as goal

pub returns : goal.returns
returns c =
    let k = c.before.before.before.before.before.before in
    added_then k.add_field-at.ensures (added_then k.add_field-at-2.ensures c.add_field.ensures)

-- `lines::add_written` meets its contract: two numbers, and then the bytes.
-- Assumes nothing.
use Rattle.lines.proofs.Adding.{added_then}
use Rattle.lines.proofs.add_written.Goals as goal

pub returns : goal.returns
returns c =
    let second = c.before.before.before.before.before.before in
    added_then second.add_field-refused.ensures (added_then second.add_field-counted.ensures c.add_front.ensures)

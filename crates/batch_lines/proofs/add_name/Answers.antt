-- `batch_lines::add_name` meets its contract: the end of the line before, and two numbers with a dot between them.
-- Assumes nothing.
use Rattle.lines.proofs.Adding.{added_then}
use Rattle.batch_lines.proofs.add_name.Goals as goal

pub returns : goal.returns
returns c =
    let k₃ = c.before.before.before.before.before.before in
    let k₂ = k₃.before.before.before.before in
    added_then k₂.add_byte-at.ensures (added_then k₂.add_number-at.ensures (added_then k₃.add_byte-at-2.ensures c.add_number.ensures))

-- `readings::add_answer` meets its contract: three numbers.
-- Assumes nothing.
use Rattle.lines.proofs.Adding.{added_then}
use Rattle.readings.proofs.add_answer.Goals as goal

pub returns : goal.returns
returns c = added_then c.add_field-refused.ensures (added_then c.add_field-timed.ensures c.add_field.ensures)

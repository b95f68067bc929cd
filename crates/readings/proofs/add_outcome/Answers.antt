-- `readings::add_outcome` meets its contract: one of three words, and a number behind the last.
-- Assumes nothing.
use Rattle.lines.proofs.Adding.{added_then}
use Rattle.readings.proofs.add_outcome.Goals as goal

pub returns : goal.returns
returns c = rw (c.if-same.false, c.if-strictly.false) (added_then c.add_text-word.ensures c.add_field.ensures)

-- `lines::add_field` meets its contract: a space, and then a number.
-- Assumes nothing.
use Rattle.lines.proofs.Adding.{added_then}
use Rattle.lines.proofs.add_field.Goals as goal

pub returns : goal.returns
returns c = added_then c.add_byte-next.ensures c.add_number.ensures

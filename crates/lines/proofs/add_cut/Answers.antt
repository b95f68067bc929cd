-- `lines::add_cut` meets its contract: a number, and then the word.
-- Assumes nothing.
use Rattle.lines.proofs.Adding.{added_then}
use Rattle.lines.proofs.add_cut.Goals as goal

pub returns : goal.returns
returns c = added_then c.add_number-next.ensures c.add_text.ensures

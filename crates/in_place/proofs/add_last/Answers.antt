-- `in_place::add_last` meets its contract: the page is turned over where it has to be, and the line has room.
-- Assumes nothing.
use Rattle.lines.proofs.Printing.{turned-adds}
use Rattle.in_place.proofs.Laws.{cut_short}
use Rattle.in_place.proofs.add_last.Goals as goal

pub returns : goal.returns
returns c = turned-adds _ _ _ _ _ _ _ c.turn_over-at.ensures c.requires.inside c.requires.line (cut_short c.args.number) c.add_cut.ensures

-- `in_place::add_line` meets its contract: the page is turned over where it has to be, and the line has room.
-- Assumes nothing.
use Rattle.lines.proofs.Adding.{added_then}
use Rattle.lines.proofs.Printing.{turned-adds}
use Rattle.in_place.proofs.Laws.{line-short}
use Rattle.in_place.proofs.add_line.Goals as goal

pub returns : goal.returns
returns c =
    let a = added_then c.add_number-numbered.ensures (added_then c.add_field-refused.ensures (added_then c.add_field-recorded.ensures c.add_left.ensures)) in
    turned-adds _ _ _ _ _ _ _ c.turn_over-at.ensures c.requires.inside c.requires.line (line-short c.args.number c.args.answer c.args.marks c.args.active) a

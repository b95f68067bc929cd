-- `sent::add_entry` meets its contract: the page is turned over where it has to be, and the entry has room.
-- Assumes nothing.
use Rattle.lines.proofs.Adding.{added_then}
use Rattle.sent.proofs.Laws.{none_told, entry-told}
use Rattle.sent.proofs.add_entry.Goals as goal

pub returns-then-n-eq0 : goal.returns-then-n-eq0
returns-then-n-eq0 c = none_told _ _ _ _ c.if-n-eq0.true c.requires.2

pub returns : goal.returns
returns c =
    let a = added_then c.add_byte-high.ensures (added_then c.add_byte-low.ensures c.add_text.ensures) in
    entry-told _ _ _ _ _ _ _ c.if-n-eq0.false c.requires.0 c.requires.1 c.requires.2 c.requires.3 c.turn_over-at.ensures a

-- `writer::tell` meets its contract: the texts have room, and the line's end.
-- Assumes nothing.
use native.Mathlib.Omega.{arith}
use Rattle.turns.proofs.Laws.{line-told}
use Rattle.writer.proofs.Laws.{line-short}
use Rattle.writer.proofs.tell.Goals as goal

pub returns : goal.returns
returns c = line-told _ _ _ _ _ _ _ c.add_writing-at.ensures (omega (arith, c.requires, line-short c.args.entry.now)) c.end_line.ensures

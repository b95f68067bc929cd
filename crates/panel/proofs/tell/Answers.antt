-- `panel::tell` meets its contract: the texts have room, and the line's end.
-- Assumes nothing.
use native.Mathlib.Omega.{arith}
use Rattle.turns.proofs.Laws.{line-told}
use Rattle.panel.proofs.Laws.{line-short}
use Rattle.panel.proofs.tell.Goals as goal

pub returns : goal.returns
returns c = line-told _ _ _ _ _ _ _ c.add_answer-at.ensures (omega (arith, c.requires.0, line-short c.args.obeyed c.args.output.now c.requires.1)) c.end_line.ensures

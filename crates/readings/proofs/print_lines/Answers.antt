-- `readings::print_lines` is safe. There is room for each line.
-- Assumes nothing.
use native.Mathlib.Omega.{arith}
use Rattle.turns.proofs.Laws.{turn-begins, line-has-room}
use Rattle.readings.proofs.print_lines.Goals as goal

pub tell-stand-requires : goal.tell-stand-requires
tell-stand-requires c =
    let e = turn-begins _ _ _ _ _ _ _ _ _ c.in-Entry.ensures in
    omega (arith, line-has-room _ _ _ _ _ _ _ _ e (omega arith) (omega (arith, c.requires.line)))

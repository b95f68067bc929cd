-- `panel::run` is safe. There is room for each line.
-- Assumes nothing.
use native.Mathlib.Omega.{arith}
use Rattle.commands.specs.Commands.{command_of}
use Rattle.commands.proofs.Carried.{obeyed-few}
use Rattle.turns.proofs.Laws.{turn-begins, line-has-room}
use Rattle.panel.proofs.run.Goals as goal

pub tell-stand-requires : goal.tell-stand-requires
tell-stand-requires c = (
  omega (arith, line-has-room _ _ _ _ _ _ _ _ (turn-begins _ _ _ _ _ _ _ _ _ c.in-Entry.ensures) (omega arith) (omega (arith, c.requires.1))),
  omega (arith, obeyed-few _ (command_of _) _ _ _ c.obey-obeyed.ensures, c.requires.2),
)

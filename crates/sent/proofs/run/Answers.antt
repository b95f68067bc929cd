-- `sent::run` is safe. There is room for what is written.
-- Assumes nothing.
use native.Mathlib.Omega.{arith}
use Rattle.commands.specs.Commands.{command_of}
use Rattle.commands.proofs.Carried.{obeyed-few}
use Rattle.sent.proofs.run.Goals as goal

pub add_entry-at-requires : goal.add_entry-at-requires
add_entry-at-requires c =
    let n = obeyed-few _ (command_of _) _ _ _ c.obey-obeyed.ensures in
    (omega (arith, n), omega (arith, n, c.requires.2), omega arith, omega (arith, c.requires.1))

-- `receiver::fresh` meets its contract.
-- Assumes nothing.
use mathlib.Core.Path.{refl}
use Rattle.machine.specs.Table.{resting}
use Rattle.machine.specs.Held.{nobody}
use Rattle.receiver.specs.Receive.{fresh}
use Rattle.receiver.proofs.fresh.Goals as goal

pub returns : goal.returns
unfolding fresh resting nobody
returns c = refl

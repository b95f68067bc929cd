-- `moves::table::rest_all` meets its contract.
-- Assumes nothing.
use mathlib.Core.Path.{refl}
use Rattle.machine.specs.Table.{resting}
use Rattle.moves.proofs.table.rest_all.Goals as goal

pub returns : goal.returns
unfolding resting
returns c = refl

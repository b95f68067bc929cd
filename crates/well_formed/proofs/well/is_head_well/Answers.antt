-- `well_formed::well::is_head_well` meets its contract: the machine's test is the definition's.
-- Assumes nothing.
use mathlib.Core.Path.{refl}
use Rattle.well_formed.specs.WellFormed.{head_well}
use Rattle.well_formed.proofs.well.is_head_well.Goals as goal

pub returns : goal.returns
unfolding head_well
returns c = refl

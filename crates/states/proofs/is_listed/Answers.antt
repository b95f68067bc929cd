-- `states::is_listed` meets its contract.
-- Assumes nothing.
use mathlib.Core.Path.{ap}
use Prim.Native.Nat.{ℕ}
use lib.Dec.{ltb}
use Rattle.states.specs.Table.{listed}
use Rattle.states.proofs.is_listed.Goals as goal

pub returns : goal.returns
unfolding listed
returns c = ap (λ (k : ℕ). ltb k 8) c.row_of.ensures

-- `unpacking::read::is_contact_spare_zero` meets its contract.
-- Assumes nothing.
use mathlib.Core.Path.{ap}
use Prim.Native.Nat.{ℕ}
use lib.Dec.{eqb}
use Rattle.house.specs.Fields.{unpacked}
use Rattle.house.specs.Layout.{contact_spare}
use Rattle.unpacking.proofs.read.is_contact_spare_zero.Goals as goal

pub returns : goal.returns
unfolding unpacked contact_spare
returns c = ap (λ (k : ℕ). eqb k 0) c.get.ensures.0

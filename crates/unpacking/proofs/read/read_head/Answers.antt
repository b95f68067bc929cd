-- `unpacking::read::read_head` meets its contract: each field is what `get` gives.
-- Assumes nothing.
use Prim.Native.Nat.{◌+◌, ◌*◌, ◌^◌}
use Rattle.house.specs.Fields.{unpacked}
use Rattle.house.specs.Layout.{head_in}
use Rattle.unpacking.proofs.read.read_head.Goals as goal

pub returns : goal.returns
unfolding unpacked head_in
returns c =
    λ i. record { count = c.get-high.ensures.0 i * 2 ^ 6 + c.get-low.ensures.0 i; offset = record { 0 = c.get-offset.ensures.0 i } }

-- `unpacking::read::read_kind` meets its contract.
-- Assumes nothing.
use Rattle.house.specs.Fields.{unpacked}
use Rattle.house.specs.Layout.{kind_of}
use Rattle.unpacking.proofs.read.read_kind.Goals as goal

pub returns : goal.returns
unfolding unpacked kind_of
returns c = c.get.ensures.0

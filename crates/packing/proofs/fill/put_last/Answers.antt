-- `packing::fill::put_last` meets its contract: two fields and the unused bits.
-- Assumes nothing.
use Rattle.packing.proofs.Filling.{puts_then}
use Rattle.packing.proofs.fill.put_last.Goals as goal

pub returns : goal.returns
returns c = puts_then (puts_then c.put.ensures c.put-2.ensures) c.put-3.ensures

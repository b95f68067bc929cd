-- `packing::bits::put` meets its contract: whole bytes stand before the tail that is lent.
-- Assumes nothing.
use native.Mathlib.Omega.{arith}
use Rattle.packing.proofs.Filling.{puts-tail}
use Rattle.packing.proofs.bits.put.Goals as goal

pub returns : goal.returns
returns c = let a = c.args in puts-tail a.out.now a.at (omega arith) c.put_behind.ensures

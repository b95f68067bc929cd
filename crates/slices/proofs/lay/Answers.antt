-- `slices::lay` meets its contract.
-- Assumes nothing.
use Rattle.std.proofs.Common.{refl, ap}
use mathlib.Core.List.{◌++◌}
use native.Mathlib.Omega.{arith}
use lib.ListN.{length, drop}
use Rattle.slices.proofs.Laws.{writes_bytes, writes-none}
use Rattle.slices.proofs.lay.Goals as goal

pub returns-then-out-n : goal.returns-then-out-n
returns-then-out-n c = writes-none _ _ _ _ c.if-out-n.true c.refused.ensures refl

pub returns : goal.returns
returns c =
    let a = c.args in
    writes_bytes a.source.now _ a.out.now _ (omega arith) c.done.ensures (ap (λ front. front ++ drop (length a.source.now) a.out.now) c.copy_from_slice.ensures.after)

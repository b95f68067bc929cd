-- `bursts::is_batch` meets its contract.
-- Assumes nothing.
use mathlib.Core.Path.{sym}
use native.Mathlib.Omega.{arith}
use Rattle.bursts.proofs.Batched.{batched-not, batched-if}
use Rattle.bursts.proofs.is_batch.Goals as goal

pub returns-then-counted-buffer : goal.returns-then-counted-buffer
returns-then-counted-buffer c = sym (batched-not _ _ λ e. omega (arith, e, c.if-counted-buffer.true, c.count_entries-counted.ensures.1))

pub returns : goal.returns
returns c =
    let n = c.count_entries-counted.ensures in
    rw n.0 (sym (batched-if _ _ (omega (arith, c.if-counted-buffer.false, n.1))))

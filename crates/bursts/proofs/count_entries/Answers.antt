-- `bursts::count_entries` meets its contract.
-- Assumes nothing.
use Prim.Native.Nat.{◌+◌, ◌≤◌}
use mathlib.Core.Path.{sym, ◌∙◌}
use native.Mathlib.Omega.{arith}
use lib.ListN.{length}
use Rattle.bursts.proofs.Counting.{counts-last, counts-stop, counts-next, found_inside}
use Rattle.bursts.proofs.count_entries.Goals as goal

pub overflow_add-bytes-in-loop-bytes : goal.overflow_add-bytes-in-loop-bytes
overflow_add-bytes-in-loop-bytes c =
    let inside : c.loop-bytes.bytes + 2 + c.in-Some.n ≤ length c.args.buffer.now = found_inside _ _ _ c.loop-bytes.invariant _ (sym c.read_front-next.ensures ∙ c.in-Some.is) in
    omega (arith, inside)

pub loop-bytes-preserved : goal.loop-bytes-preserved
loop-bytes-preserved c = counts-next _ _ _ c.loop-bytes.invariant _ (sym c.read_front-next.ensures ∙ c.in-Some.is)

pub returns-after-loop-bytes : goal.returns-after-loop-bytes
returns-after-loop-bytes c = counts-last _ _ _ c.loop-bytes.invariant c.loop-bytes-test.false

pub returns-in_default : goal.returns-in_default
returns-in_default c = counts-stop _ _ _ c.loop-bytes.invariant (sym c.read_front-next.ensures ∙ c.in_default.is)

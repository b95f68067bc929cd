-- `moves::records::write_cancels` meets its contract. The loop keeps: the cancels from id on, laid from at on, give what all of them give.
-- Assumes nothing.
use Prim.Native.Nat.{◌+◌}
use mathlib.Core.Path.{refl}
use native.Mathlib.Omega.{arith}
use native.Mathlib.Nat.{zero-add}
use Rattle.slices.proofs.Laws.{writes-none}
use Rattle.contacts.specs.Ruling.{table_from}
use Rattle.moves.proofs.Cancelling.{cancels-counted, cancels_turn, cancels-over}
use Rattle.moves.proofs.records.write_cancels.Goals.{else-loop-id-test, then-loop-id-test+else-id-lt255}
use Rattle.moves.proofs.records.write_cancels.Goals as goal

pub returns-then-out-active : goal.returns-then-out-active
returns-then-out-active c =
    let a = c.args in
    writes-none _ _ _ _ (rw (cancels-counted (table_from a.states.now a.xs.now a.ys.now) _ c.count_active-active.ensures.0) c.if-out-active.true) c.refused.ensures refl

pub loop-id-init : goal.loop-id-init
loop-id-init c =
    let a = c.args in
    (omega arith, (zero-add _, rw (cancels-counted (table_from a.states.now a.xs.now a.ys.now) _ c.count_active-active.ensures.0) c.if-out-active.false, refl, refl))

pub loop-id-preserved : goal.loop-id-preserved
loop-id-preserved c =
    let p = c.loop-id in
    (omega arith, cancels_turn _ _ _ p.id p.at p.invariant.1 _ _ (omega arith) c.write_cancel-written.ensures)

pub returns : goal.returns
returns c =
    let p = c.loop-id in
    elim c.loop-id-test.branch [
      | else-loop-id-test w ↦ rw w.out-is (cancels-over _ _ _ p.id p.at p.invariant.1 _ (rw w.at-is at c.done.ensures) (omega arith))
      | then-loop-id-test+else-id-lt255 w ↦
          let turn = cancels_turn _ _ _ p.id p.at p.invariant.1 _ _ (omega arith) w.write_cancel-written.ensures in
          rw w.out-is (cancels-over _ _ _ (p.id + 1) (p.at + w.write_cancel-written.result.bytes) turn _ (rw w.at-is at c.done.ensures) (omega arith))
    ]

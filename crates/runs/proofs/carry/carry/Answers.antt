-- `runs::carry::carry` meets its contract: with room for all of it the head and its contacts are written, and otherwise only the table moves.
-- Assumes nothing.
use Prim.Native.Nat.{◌+◌}
use mathlib.Core.Path.{◌≡◌}
use mathlib.Core.List.{[], ◌++◌}
use mathlib.Core.Logic.{inl, inr}
use native.Mathlib.Omega.{arith}
use lib.ListN.{length, length-append}
use Rattle.slices.proofs.Laws.{writes-done}
use Rattle.slices.proofs.Tails.{wrote-second}
use Rattle.house.specs.Layout.{head_bytes}
use Rattle.house.proofs.Round.{length-head}
use Rattle.frame_records.specs.Frames.{records_read}
use Rattle.frame_records.proofs.Laws.{records-most}
use Rattle.runs.proofs.Laying.{lays-frame, lays-nothing}
use Rattle.runs.proofs.carry.carry.Goals as goal
use Rattle.runs.proofs.carry.carry.Goals.{else-wet-via-then-wet+else-count-out, else-wet-via-else-wet}

pub returns-then-count-out : goal.returns-then-count-out
returns-then-count-out c =
    let a = c.args in
    let l = a.rest.now in
    let s = records_read a.head.count [] l in
    let k = length-head a.head in
    let m = records-most a.head.count [] l in
    let n : length (head_bytes a.head ++ s) ≡ 21 + length s = simp length-append (omega arith) in
    let d = writes-done _ _ _ _ c.write_head.ensures (omega arith) in
    let o = wrote-second a.out.now _ _ (head_bytes a.head) s 21 k d.output c.carry_contacts.ensures.output (omega arith) in
    record { table = c.carry_contacts.ensures.table; output = lays-frame a.wet a.head l a.out.now _ c.if-wet.true (omega arith) o }

pub returns : goal.returns
returns c =
    let a = c.args in
    record {
      table = c.apply.ensures.value;
      output = elim c.else-wet.branch [
        | else-wet-via-then-wet+else-count-out w ↦ lays-nothing a.wet a.head a.rest.now a.out.now (inl (w.if-wet.true, w.if-count-out.false))
        | else-wet-via-else-wet w ↦ lays-nothing a.wet a.head a.rest.now a.out.now (inr w.if-wet.false)
      ];
    }

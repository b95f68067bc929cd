-- `frame_records::write::write_frame` meets its contract: 13 before anything is touched, or the head's record and then those of its contacts.
-- Assumes nothing.
use Prim.Native.Nat.{◌+◌}
use mathlib.Core.Path.{◌≡◌, refl, ◌∙◌}
use mathlib.Core.List.{[], ◌++◌}
use native.Mathlib.Omega.{arith}
use lib.ListN.{length, length-append}
use Rattle.slices.proofs.Laws.{writes-done}
use Rattle.slices.proofs.Tails.{wrote-second}
use Rattle.house.specs.Layout.{head_bytes}
use Rattle.house.proofs.Round.{length-head}
use Rattle.frame_records.specs.Frames.{records_read}
use Rattle.frame_records.proofs.Laws.{records-most, frame-behind, writes-frame, writes-no-frame}
use Rattle.frame_records.proofs.write.write_frame.Goals as goal

pub returns-then-out-all : goal.returns-then-out-all
returns-then-out-all c = writes-no-frame _ _ _ _ _ (omega arith) c.refused.ensures refl

pub returns : goal.returns
returns c =
    let a = c.args in
    let l = a.rest.now in
    let s = records_read a.head.count [] l in
    let k = length-head a.head in
    let m = records-most a.head.count [] l in
    let b = frame-behind a.head l in
    let n : length (head_bytes a.head ++ s) ≡ 21 + length s = simp length-append (omega arith) in
    let d = writes-done _ _ _ _ c.write_head.ensures (omega arith) in
    let o = wrote-second a.out.now _ _ (head_bytes a.head) s 21 k d.output c.write_contacts-more.ensures.output (omega arith) in
    writes-frame a.head l _ _ _ (omega arith) (c.done.ensures ∙ rw (b, n, c.write_contacts-more.ensures.count)) (rw b o)

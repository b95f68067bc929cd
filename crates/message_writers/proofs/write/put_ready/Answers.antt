-- `message_writers::write::put_ready` meets its contract: three fields, each behind the last.
-- Assumes nothing.
use Prim.Native.Nat.{◌+◌}
use native.Mathlib.Omega.{arith}
use Rattle.formats.specs.Format.{write_little}
use mathlib.Core.List.{◌++◌}
use borrow.Rule.Slice.PartMut.{put_mid}
use lib.ListN.{length}
use Prim.Native.Nat.{◌-◌}
use Rattle.messages.specs.Bodies.{ready_by}
use Rattle.message_writers.specs.Put.{Put}
use Rattle.message_writers.proofs.Writing.{put_next, Room, room}
use Rattle.message_writers.proofs.write.put_ready.Goals as goal

pub put_four-requires : goal.put_four-requires
unfolding write_little
put_four-requires c =
    let after : Room c.put_four-at.new.out c.put_four-at.result 4 =
    room _ _ _ _ 4 c.put_four-at.ensures (omega arith) in
    after.next

pub put_two-requires : goal.put_two-requires
unfolding write_little
put_two-requires c =
    let two : Put (write_little 4 c.args.settings.flags ++ write_little 4 c.args.settings.version) (c.put_four-at.result + c.put_four.result) c.args.out.now
    (put_mid c.put_four-at.result (length c.put_four-at.new.out - c.put_four-at.result) c.put_four-at.new.out c.put_four.new.out) =
    put_next _ _ _ _ _ _ _ c.put_four-at.ensures c.put_four.ensures (omega arith) in
    let after_two : Room (put_mid c.put_four-at.result (length c.put_four-at.new.out - c.put_four-at.result) c.put_four-at.new.out c.put_four.new.out) (c.put_four-at.result + c.put_four.result) 2 =
    room _ _ _ _ 2 two (omega arith) in
    after_two.next

pub returns : goal.returns
unfolding ready_by write_little
returns c =
    let two : Put (write_little 4 c.args.settings.flags ++ write_little 4 c.args.settings.version) (c.put_four-at.result + c.put_four.result) c.args.out.now
    (put_mid c.put_four-at.result (length c.put_four-at.new.out - c.put_four-at.result) c.put_four-at.new.out c.put_four.new.out) =
    put_next _ _ _ _ _ _ _ c.put_four-at.ensures c.put_four.ensures (omega arith) in
    put_next _ _ _ _ _ _ _ two c.put_two.ensures (omega arith)

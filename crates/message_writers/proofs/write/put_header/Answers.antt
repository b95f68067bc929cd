-- `message_writers::write::put_header` meets its contract: the event, and the length behind it.
-- Assumes nothing.
use native.Mathlib.Omega.{arith}
use Rattle.formats.specs.Format.{write_little}
use Rattle.message_writers.proofs.Writing.{Room, room}
use Rattle.message_writers.proofs.write.put_header.Goals as goal

pub put_four-requires : goal.put_four-requires
unfolding write_little
put_four-requires c =
    let after : Room c.put_two-at.new.out c.put_two-at.result 4 =
    room _ _ _ _ 4 c.put_two-at.ensures (omega arith) in
    after.next

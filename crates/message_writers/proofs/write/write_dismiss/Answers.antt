-- `message_writers::write::write_dismiss` meets its contract: 13, or the header and the id behind it.
-- Assumes nothing.
use native.Mathlib.Omega.{arith}
use Rattle.formats.specs.Format.{write_little}
use Rattle.formats.specs.Format.{byte}
use Rattle.messages.specs.Header.{dismiss}
use Rattle.messages.specs.Bodies.{dismiss_draft}
use Rattle.message_writers.proofs.Writing.{Room, room, message-writes, message-none}
use Rattle.message_writers.proofs.write.write_dismiss.Goals as goal

pub returns-then-out-lt-DISMISS_BYTES : goal.returns-then-out-lt-DISMISS_BYTES
unfolding dismiss_draft
returns-then-out-lt-DISMISS_BYTES c = message-none dismiss byte _ _ _ c.if-out-lt-DISMISS_BYTES.true c.refused.ensures

pub put_one-requires : goal.put_one-requires
unfolding write_little
put_one-requires c =
    let after : Room c.put_header-at.new.out c.put_header-at.result 1 =
    room _ _ _ _ 1 c.put_header-at.ensures (omega arith) in
    after.next

pub returns : goal.returns
unfolding dismiss_draft
returns c = message-writes dismiss byte _ _ _ _ _ _ _ c.put_header-at.ensures c.put_one.ensures (omega arith) c.done.ensures

-- `writing::spell::write_frame_head` meets its contract: the count of contacts, and the offset behind it.
-- Assumes nothing.
use mathlib.Core.Bool.{false}
use mathlib.Core.List.{append-nil}
use lib.ListN.{length}
use Rattle.fields.specs.Integers.{taken}
use Rattle.framing.specs.Format.{frame_head_format}
use Rattle.touch.specs.Touch.{frame_head}
use Rattle.message_writers.proofs.Writing.{Room}
use Rattle.writing.proofs.Putting.{Parted, first-room, next-room, put_both}
use Rattle.writing.proofs.spell.write_frame_head.Goals as goal

pub put-at_offset-requires : goal.put-at_offset-requires
unfolding frame_head_format
put-at_offset-requires c =
    let parted : let h = c.args.head in Parted (taken.u2.write h.count) (taken.u8.write h.offset.0) ((frame_head taken false).write h) c.args.out.now =
    record { same = rw append-nil; room = c.requires.1 } in
    (c.requires.0.0.0, first-room parted)

pub put-requires : goal.put-requires
unfolding frame_head_format
put-requires c =
    let parted : let h = c.args.head in Parted (taken.u2.write h.count) (taken.u8.write h.offset.0) ((frame_head taken false).write h) c.args.out.now =
    record { same = rw append-nil; room = c.requires.1 } in
    let after : Room c.put-at_offset.new.out c.put-at_offset.result (length (taken.u8.write c.args.head.offset.0)) =
    next-room parted c.put-at_offset.ensures in
    (c.requires.0.1.0, after.next)

pub returns : goal.returns
unfolding frame_head_format
returns c =
    let parted : let h = c.args.head in Parted (taken.u2.write h.count) (taken.u8.write h.offset.0) ((frame_head taken false).write h) c.args.out.now =
    record { same = rw append-nil; room = c.requires.1 } in
    put_both parted c.put-at_offset.ensures c.put.ensures

-- `writing::message::write_touch_head` meets its contract: encodeTime, and the count of frames behind it.
-- Assumes nothing.
use mathlib.Core.List.{append-nil}
use native.Mathlib.Omega.{arith}
use lib.ListN.{length}
use Rattle.fields.specs.Integers.{taken}
use Rattle.framing.specs.Format.{body_head_format}
use Rattle.touch.specs.Touch.{touch_head}
use Rattle.message_writers.proofs.Writing.{Room}
use Rattle.writing.proofs.Putting.{Parted, first-room, next-room, put_both}
use Rattle.writing.proofs.message.write_touch_head.Goals as goal

pub put-at_count-requires : goal.put-at_count-requires
unfolding body_head_format
put-at_count-requires c =
    let parted : let a = c.args in
    Parted (taken.u4.write a.time.0) (taken.u2.write a.frames) ((touch_head taken).write (record { time = a.time; frames = a.frames })) a.out.now =
    record { same = rw append-nil; room = c.requires.1 } in
    (c.requires.0, first-room parted)

pub put-requires : goal.put-requires
unfolding body_head_format
put-requires c =
    let parted : let a = c.args in
    Parted (taken.u4.write a.time.0) (taken.u2.write a.frames) ((touch_head taken).write (record { time = a.time; frames = a.frames })) a.out.now =
    record { same = rw append-nil; room = c.requires.1 } in
    let after : Room c.put-at_count.new.out c.put-at_count.result (length (taken.u2.write c.args.frames)) =
    next-room parted c.put-at_count.ensures in
    (omega arith, after.next)

pub returns : goal.returns
unfolding body_head_format
returns c =
    let parted : let a = c.args in
    Parted (taken.u4.write a.time.0) (taken.u2.write a.frames) ((touch_head taken).write (record { time = a.time; frames = a.frames })) a.out.now =
    record { same = rw append-nil; room = c.requires.1 } in
    put_both parted c.put-at_count.ensures c.put.ensures

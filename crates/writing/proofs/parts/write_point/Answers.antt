-- `writing::parts::write_point` meets its contract: x, and y behind it.
-- Assumes nothing.
use native.Mathlib.Omega.{arith}
use Prim.Native.Nat.{◌-◌}
use mathlib.Core.List.{append-nil}
use mir.Syntax.{w32}
use mir.Val.{SFits}
use mir.Facts.{to_z-of_z}
use lib.ListN.{length}
use borrow.Rule.Slice.PartMut.{mid_of}
use Rattle.fields.specs.Integers.{taken}
use Rattle.touch.specs.Touch.{point}
use Rattle.message_writers.specs.Put.{Put}
use Rattle.message_writers.proofs.Writing.{Room}
use Rattle.writing.proofs.Putting.{Parted, first-room, next-room, put_both}
use Rattle.writing.proofs.parts.write_point.Goals as goal

pub put-at_y-requires : goal.put-at_y-requires
unfolding point
put-at_y-requires c =
    let parted : let a = c.args in Parted (taken.s4.write a.place.x) (taken.s4.write a.place.y) ((point taken).write a.place) a.out.now =
    record { same = rw append-nil; room = c.requires.1 } in
    let fit-x : SFits w32 c.args.place.x =
    record { sfits = c.type_inv.place.0.1 } in
    rw (to_z-of_z fit-x) (c.requires.0.0, first-room parted)

pub put-requires : goal.put-requires
unfolding point
put-requires c =
    let fit-y : SFits w32 c.args.place.y =
    record { sfits = c.type_inv.place.1.0.1 } in
    let parted : let a = c.args in Parted (taken.s4.write a.place.x) (taken.s4.write a.place.y) ((point taken).write a.place) a.out.now =
    record { same = rw append-nil; room = c.requires.1 } in
    let fit-x : SFits w32 c.args.place.x =
    record { sfits = c.type_inv.place.0.1 } in
    let put-x : let a = c.args in Put (taken.s4.write a.place.x) c.put-at_y.result a.out.now c.put-at_y.new.out =
    rw (to_z-of_z fit-x) at c.put-at_y.ensures in
    let after : Room c.put-at_y.new.out c.put-at_y.result (length (taken.s4.write c.args.place.y)) =
    next-room parted put-x in
    rw (to_z-of_z fit-y) (c.requires.0.1.0, after.next)

pub returns : goal.returns
unfolding point
returns c =
    let parted : let a = c.args in Parted (taken.s4.write a.place.x) (taken.s4.write a.place.y) ((point taken).write a.place) a.out.now =
    record { same = rw append-nil; room = c.requires.1 } in
    let fit-x : SFits w32 c.args.place.x =
    record { sfits = omega arith } in
    let put-x : let a = c.args in Put (taken.s4.write a.place.x) c.put-at_y.result a.out.now c.put-at_y.new.out =
    rw (to_z-of_z fit-x) at c.put-at_y.ensures in
    let fit-y : SFits w32 c.args.place.y =
    record { sfits = omega arith } in
    let put-y : let x = c.put-at_y in
    Put (taken.s4.write c.args.place.y) c.put.result (mid_of x.result (length x.new.out - x.result) x.new.out) c.put.new.out =
    rw (to_z-of_z fit-y) at c.put.ensures in
    put_both parted put-x put-y

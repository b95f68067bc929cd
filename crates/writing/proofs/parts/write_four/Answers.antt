-- `writing::parts::write_four` meets its contract: left and top, then right and bottom.
-- Assumes nothing.
use native.Mathlib.Omega.{arith}
use Prim.Native.Nat.{◌-◌}
use mathlib.Core.List.{◌++◌, append-nil, append_assoc}
use mir.Syntax.{w16}
use mir.Val.{SFits}
use mir.Facts.{to_z-of_z}
use lib.ListN.{length}
use borrow.Rule.Slice.PartMut.{mid_of}
use Rattle.fields.specs.Integers.{taken}
use Rattle.house.specs.declared.Sides.{Sides}
use Rattle.touch.specs.Touch.{sides}
use Rattle.message_writers.specs.Put.{Put}
use Rattle.message_writers.proofs.Writing.{Room}
use Rattle.writing.proofs.Putting.{Parted, first-room, next-room, put_both}
use Rattle.writing.proofs.parts.write_four.Goals as goal

-- each side is of 16 bits
record Fit (s : Sides) : Type 0 where
  left : SFits w16 s.left
  top : SFits w16 s.top
  right : SFits w16 s.right
  bottom : SFits w16 s.bottom

pub write_two-at_right-requires : goal.write_two-at_right-requires
unfolding sides
write_two-at_right-requires c =
    let fit : Fit c.args.four =
    let g = c.type_inv.four in
    record { left = record { sfits = g.0.1 }; top = record { sfits = g.1.0.1 }; right = record { sfits = g.1.1.0.1 }; bottom = record { sfits = g.1.1.1.0.1 } } in
    let parted : let s = c.args.four in
    Parted (taken.s2.write s.left ++ taken.s2.write s.top) (taken.s2.write s.right ++ taken.s2.write s.bottom) ((sides taken).write s) c.args.out.now =
    record { same = simp (append_assoc, append-nil); room = c.requires.1 } in
    let h = c.requires.0 in
    rw (to_z-of_z fit.left, to_z-of_z fit.top) (h.0, h.1.0, first-room parted)

pub write_two-requires : goal.write_two-requires
unfolding sides
write_two-requires c =
    let fit : Fit c.args.four =
    let g = c.type_inv.four in
    record { left = record { sfits = g.0.1 }; top = record { sfits = g.1.0.1 }; right = record { sfits = g.1.1.0.1 }; bottom = record { sfits = g.1.1.1.0.1 } } in
    let parted : let s = c.args.four in
    Parted (taken.s2.write s.left ++ taken.s2.write s.top) (taken.s2.write s.right ++ taken.s2.write s.bottom) ((sides taken).write s) c.args.out.now =
    record { same = simp (append_assoc, append-nil); room = c.requires.1 } in
    let high : let a = c.args in
    Put (taken.s2.write a.four.left ++ taken.s2.write a.four.top) c.write_two-at_right.result a.out.now c.write_two-at_right.new.out =
    rw (to_z-of_z fit.left, to_z-of_z fit.top) at c.write_two-at_right.ensures in
    let after : let s = c.args.four in
    Room c.write_two-at_right.new.out c.write_two-at_right.result (length (taken.s2.write s.right ++ taken.s2.write s.bottom)) =
    next-room parted high in
    let h = c.requires.0 in
    rw (to_z-of_z fit.right, to_z-of_z fit.bottom) (h.1.1.0, h.1.1.1.0, after.next)

pub returns : goal.returns
unfolding sides
returns c =
    let parted : let s = c.args.four in
    Parted (taken.s2.write s.left ++ taken.s2.write s.top) (taken.s2.write s.right ++ taken.s2.write s.bottom) ((sides taken).write s) c.args.out.now =
    record { same = simp (append_assoc, append-nil); room = c.requires.1 } in
    let fit : Fit c.args.four =
    record { left = record { sfits = omega arith }; top = record { sfits = omega arith }; right = record { sfits = omega arith }; bottom = record { sfits = omega arith } } in
    let high : let a = c.args in
    Put (taken.s2.write a.four.left ++ taken.s2.write a.four.top) c.write_two-at_right.result a.out.now c.write_two-at_right.new.out =
    rw (to_z-of_z fit.left, to_z-of_z fit.top) at c.write_two-at_right.ensures in
    let low : let x = c.write_two-at_right in let s = c.args.four in
    Put (taken.s2.write s.right ++ taken.s2.write s.bottom) c.write_two.result (mid_of x.result (length x.new.out - x.result) x.new.out) c.write_two.new.out =
    let f = fit in rw (to_z-of_z f.right, to_z-of_z f.bottom) at c.write_two.ensures in
    put_both parted high low

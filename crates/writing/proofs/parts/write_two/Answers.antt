-- `writing::parts::write_two` meets its contract: one side, and the other behind it.
-- Assumes nothing.
use Prim.Native.Nat.{◌-◌}
use mathlib.Core.Path.{refl}
use mathlib.Core.List.{◌++◌}
use mir.Facts.{to_z-of_z}
use lib.ListN.{length}
use borrow.Rule.Slice.PartMut.{mid_of}
use Rattle.fields.specs.Integers.{taken}
use Rattle.message_writers.specs.Put.{Put}
use Rattle.writing.proofs.Putting.{Parted, put_both}
use Rattle.writing.proofs.parts.write_two.Goals as goal

pub returns : goal.returns
returns c =
    let parted : let a = c.args in Parted (taken.s2.write a.first) (taken.s2.write a.second) (taken.s2.write a.first ++ taken.s2.write a.second) a.out.now =
    record { same = refl; room = c.requires.2 } in
    let one : let a = c.args in Put (taken.s2.write a.first) c.put-at.result a.out.now c.put-at.new.out =
    rw (to_z-of_z c.ranges.first) at c.put-at.ensures in
    let two : let x = c.put-at in
    Put (taken.s2.write c.args.second) c.put.result (mid_of x.result (length x.new.out - x.result) x.new.out) c.put.new.out =
    rw (to_z-of_z c.ranges.second) at c.put.ensures in
    put_both parted one two

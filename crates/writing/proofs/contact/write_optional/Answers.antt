-- `writing::contact::write_optional` meets its contract: the sides, and the numbers behind them.
-- Assumes nothing.
use mathlib.Core.Bool.{cond}
use mathlib.Core.List.{[], ◌++◌, append-nil}
use lib.ListN.{length}
use Rattle.fields.specs.Integers.{taken}
use Rattle.well_formed.specs.WellFormed.{has}
use Rattle.touch.specs.Touch.{sides, optional, optional_of}
use Rattle.message_writers.specs.Put.{Put}
use Rattle.message_writers.proofs.Writing.{Room}
use Rattle.writing.proofs.Putting.{Parted, first-room, next-room, put_both}
use Rattle.writing.proofs.contact.write_optional.Goals as goal

pub write_sides-at_turn-requires : goal.write_sides-at_turn-requires
unfolding optional
write_sides-at_turn-requires c =
    let parted : let t = c.args.touch in
    Parted (cond (has 1 t.present) ((sides taken).write t.sides) []) (cond (has 2 t.present) (taken.u4.write t.orientation) [] ++ cond (has 4 t.present) (taken.u4.write t.pressure) [])
    ((optional taken t.present).write (optional_of t)) c.args.out.now =
    record { same = simp append-nil; room = c.requires.1 } in
    rw c.has_field.ensures (c.requires.0.0, first-room parted)

pub write_numbers-requires : goal.write_numbers-requires
unfolding optional
write_numbers-requires c =
    let parted : let t = c.args.touch in
    Parted (cond (has 1 t.present) ((sides taken).write t.sides) []) (cond (has 2 t.present) (taken.u4.write t.orientation) [] ++ cond (has 4 t.present) (taken.u4.write t.pressure) [])
    ((optional taken t.present).write (optional_of t)) c.args.out.now =
    record { same = simp append-nil; room = c.requires.1 } in
    let four : let a = c.args in
    Put (cond (has 1 a.touch.present) ((sides taken).write a.touch.sides) []) c.write_sides-at_turn.result a.out.now c.write_sides-at_turn.new.out =
    rw c.has_field.ensures at c.write_sides-at_turn.ensures in
    let after : let t = c.args.touch in
    Room c.write_sides-at_turn.new.out c.write_sides-at_turn.result (length (cond (has 2 t.present) (taken.u4.write t.orientation) [] ++ cond (has 4 t.present) (taken.u4.write t.pressure) [])) =
    next-room parted four in
    after.next

pub returns : goal.returns
unfolding optional
returns c =
    let parted : let t = c.args.touch in
    Parted (cond (has 1 t.present) ((sides taken).write t.sides) []) (cond (has 2 t.present) (taken.u4.write t.orientation) [] ++ cond (has 4 t.present) (taken.u4.write t.pressure) [])
    ((optional taken t.present).write (optional_of t)) c.args.out.now =
    record { same = simp append-nil; room = c.requires.1 } in
    let four : let a = c.args in
    Put (cond (has 1 a.touch.present) ((sides taken).write a.touch.sides) []) c.write_sides-at_turn.result a.out.now c.write_sides-at_turn.new.out =
    rw c.has_field.ensures at c.write_sides-at_turn.ensures in
    put_both parted four c.write_numbers.ensures

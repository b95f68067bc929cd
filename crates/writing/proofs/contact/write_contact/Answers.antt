-- `writing::contact::write_contact` meets its contract: id and fieldsPresent, place and flags, and what else is there.
-- Assumes nothing.
use Prim.Native.Nat.{ℕ, ◌+◌, ◌-◌}
use mathlib.Core.Path.{refl}
use mathlib.Core.List.{List, ◌++◌, append-nil, append_assoc}
use lib.ListN.{length}
use borrow.Rule.Slice.PartMut.{put_mid}
use Rattle.formats.specs.Format.{byte}
use Rattle.fields.specs.Integers.{taken}
use Rattle.house.specs.declared.Contact.{Contact}
use Rattle.touch.specs.Touch.{point, optional, optional_of, contact}
use Rattle.message_writers.specs.Put.{Put}
use Rattle.message_writers.proofs.Writing.{Room}
use Rattle.writing.proofs.Putting.{Parted, first-room, next-room, put_both}
use Rattle.writing.proofs.contact.write_contact.Goals as goal

-- the three parts
abbrev lead : Contact → List ℕ
lead t = byte.write t.id ++ taken.u2.write t.present

abbrev placed : Contact → List ℕ
placed t = (point taken).write t.place ++ taken.u4.write t.flags

abbrev rest : Contact → List ℕ
rest t = (optional taken t.present).write (optional_of t)

pub write_lead-at_place-requires : goal.write_lead-at_place-requires
unfolding contact
write_lead-at_place-requires c =
    let last-parted : let t = c.args.touch in Parted (lead t ++ placed t) (rest t) ((contact taken).write t) c.args.out.now =
    record { same = simp (append_assoc, append-nil); room = c.requires.1 } in
    let first-parted : let t = c.args.touch in Parted (lead t) (placed t) (lead t ++ placed t) c.args.out.now =
    record { same = refl; room = first-room last-parted } in
    first-room first-parted

pub write_place-requires : goal.write_place-requires
unfolding contact
write_place-requires c =
    let last-parted : let t = c.args.touch in Parted (lead t ++ placed t) (rest t) ((contact taken).write t) c.args.out.now =
    record { same = simp (append_assoc, append-nil); room = c.requires.1 } in
    let first-parted : let t = c.args.touch in Parted (lead t) (placed t) (lead t ++ placed t) c.args.out.now =
    record { same = refl; room = first-room last-parted } in
    let after-lead : Room c.write_lead-at_place.new.out c.write_lead-at_place.result (length (placed c.args.touch)) =
    next-room first-parted c.write_lead-at_place.ensures in
    (c.requires.0.1.1.0, after-lead.next)

pub write_optional-requires : goal.write_optional-requires
unfolding contact
write_optional-requires c =
    let last-parted : let t = c.args.touch in Parted (lead t ++ placed t) (rest t) ((contact taken).write t) c.args.out.now =
    record { same = simp (append_assoc, append-nil); room = c.requires.1 } in
    let first-parted : let t = c.args.touch in Parted (lead t) (placed t) (lead t ++ placed t) c.args.out.now =
    record { same = refl; room = first-room last-parted } in
    let both : let x = c.write_lead-at_place in let a = c.args in
    Put (lead a.touch ++ placed a.touch) (x.result + c.write_place.result) a.out.now (put_mid x.result (length x.new.out - x.result) x.new.out c.write_place.new.out) =
    put_both first-parted c.write_lead-at_place.ensures c.write_place.ensures in
    let after-place : let x = c.write_lead-at_place in
    Room (put_mid x.result (length x.new.out - x.result) x.new.out c.write_place.new.out) (x.result + c.write_place.result) (length (rest c.args.touch)) =
    next-room last-parted both in
    (c.requires.0.1.1.1.1.0, after-place.next)

pub returns : goal.returns
unfolding contact
returns c =
    let last-parted : let t = c.args.touch in Parted (lead t ++ placed t) (rest t) ((contact taken).write t) c.args.out.now =
    record { same = simp (append_assoc, append-nil); room = c.requires.1 } in
    let first-parted : let t = c.args.touch in Parted (lead t) (placed t) (lead t ++ placed t) c.args.out.now =
    record { same = refl; room = first-room last-parted } in
    let both : let x = c.write_lead-at_place in let a = c.args in
    Put (lead a.touch ++ placed a.touch) (x.result + c.write_place.result) a.out.now (put_mid x.result (length x.new.out - x.result) x.new.out c.write_place.new.out) =
    put_both first-parted c.write_lead-at_place.ensures c.write_place.ensures in
    put_both last-parted both c.write_optional.ensures

-- What records of frames can hold and what a touch message can hold are the same: each is of the range of the other.
-- Assumes nothing.
use Prim.Native.Nat.{ℕ, zero, suc, ◌<◌, ◌≤◌}
use mathlib.Core.Path.{◌≡◌, refl}
use mathlib.Core.Bool.{Bool, true, false}
use mathlib.Core.List.{List, [], ◌∷◌}
use native.Mathlib.Omega.{arith}
use borrow.Author.Tests.{lt-ltb, le-leb}
use lib.Dec.{leb}
use lib.IntN.{ℤ, nat_abs}
use Rattle.paper.specs.Refusals.{bad_range}
use Rattle.formats.specs.Format.{Each, HoldsWhen, such}
use Rattle.integers.specs.Integer.{limit}
use Rattle.fields.specs.Integers.{taken}
use Rattle.house.specs.Fits.{HeadFits, no_sides}
use Rattle.house.specs.declared.Head.{Head}
use Rattle.house.specs.declared.Contact.{Contact}
use Rattle.well_formed.specs.Range.{InRange}
use Rattle.well_formed.specs.WellFormed.{has, orientation_most, pressure_most, side_most}
use Rattle.well_formed.proofs.WellFormed.{in-range}
use Rattle.framing.specs.Frame.{Frame, head_of}
use Rattle.fields.proofs.Laws.{taken-range}
use Rattle.framing.specs.Format.{frame_format, frame_head_format}
use Rattle.house.specs.Layout.{contacts_most}
use Rattle.touch.specs.Touch.{point, sides, optional, contact, frame_head, frame}
use Rattle.touch.proofs.Ranges.{contact-fits, contact-well, frame-holds}
use Rattle.recordings.specs.Records.{contact_record, frame_records}

-- one by one
each-held : {A : Type 0} (P Q : Bool → A → Type 0) → ((a : A) → P false a → Q false a) → (n : ℕ) (s : List A) → Each P false n s → Each Q false n s
unfolding Each
each-held P Q h zero [] e = tt
each-held P Q h zero (a ∷ s) e = absurd e
each-held P Q h (suc n) [] e = absurd e
each-held P Q h (suc n) (a ∷ s) e = (h a e.0, each-held P Q h n s e.1)

-- ---- what a message holds, records hold

pub contact-packs : (c : Contact) → (contact taken).Holds c → contact_record.Holds c
contact-packs c h = (contact-fits taken taken-range c h, contact-well taken taken-range c h)

pub frame-packs : (f : Frame Contact) → (frame taken false).Holds f → frame_records.Holds f
unfolding frame_format frame_records
frame-packs f h = (frame-holds taken taken-range false f h, (each-held (λ b. (contact taken).Holds) (λ b. contact_record.Holds) contact-packs _ f.contacts h.1.0, refl))

pub frames-pack : (n : ℕ) (fs : List (Frame Contact)) → Each (λ b. (frame taken b).Holds) false n fs → Each (λ b. frame_records.Holds) false n fs
frames-pack = each-held (λ b. (frame taken b).Holds) (λ b. frame_records.Holds) frame-packs

-- ---- and what records hold, a message holds

sides-held : (there : Bool) (c : Contact) → InRange c → (there ≡ false → c.sides ≡ no_sides) → HoldsWhen there (sides taken).Holds no_sides c.sides
unfolding sides
sides-held true c r a =
    let one : (z : ℤ) → nat_abs z ≤ side_most → taken.s2.Holds z = λ z k. (taken-range.s2 z).1 (omega arith) in
    (one c.sides.left r.left, (one c.sides.top r.top, (one c.sides.right r.right, (one c.sides.bottom r.bottom, refl))))
sides-held false c r a = a refl

number-held : (there : Bool) (most v : ℕ) → v ≤ most → most < limit 2 0 → (there ≡ false → v ≡ 0) → HoldsWhen there (such taken.u4 (λ v. leb v most) bad_range).Holds 0 v
number-held true most v h k a = ((taken-range.u4 v).1 (omega arith), le-leb _ _ h)
number-held false most v h k a = a refl

pub contact-writes : (c : Contact) → contact_record.Holds c → (contact taken).Holds c
unfolding contact point optional
contact-writes c h =
    let f = h.0 in
    let r = in-range c f h.1 in
    let s = sides-held (has 1 c.present) c r r.absent_sides in
    let o = number-held (has 2 c.present) orientation_most c.orientation r.orientation (omega arith) r.absent_orientation in
    let p = number-held (has 4 c.present) pressure_most c.pressure r.pressure (omega arith) r.absent_pressure in
    let fl = f.flags in
    let pr = f.present in (
      f.id,
      (
        ((taken-range.u2 c.present).1 (omega (arith, pr)), lt-ltb _ _ pr),
        (
          ((taken-range.s4 c.place.x).1 (omega (arith, r.x)), ((taken-range.s4 c.place.y).1 (omega (arith, r.y)), refl)),
          (
            ((taken-range.u4 c.flags).1 (omega (arith, fl)), r.flags),
            ((s, (o, (p, refl))), refl),
          ),
        ),
      ),
    )

pub head-writes : (h : Head) → HeadFits h → (frame_head taken false).Holds h
unfolding frame_head_format
head-writes h f =
    let n = f.count in
    (((taken-range.u2 h.count).1 (omega (arith, n)), le-leb h.count contacts_most n), ((taken-range.u8 h.offset.0).1 f.offset, refl))

pub frame-writes : (f : Frame Contact) → frame_records.Holds f → (frame taken false).Holds f
unfolding frame_format frame_records
frame-writes f h =
    (head-writes (head_of f) h.0, (each-held (λ b. contact_record.Holds) (λ b. (contact taken).Holds) contact-writes _ f.contacts h.1.0, refl))

pub frames-write : (n : ℕ) (fs : List (Frame Contact)) → Each (λ b. frame_records.Holds) false n fs → Each (λ b. (frame taken b).Holds) false n fs
frames-write = each-held (λ b. frame_records.Holds) (λ b. (frame taken b).Holds) frame-writes

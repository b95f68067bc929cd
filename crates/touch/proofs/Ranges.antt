-- What is read of a touch message fits the records: every contact is well formed and no value is wider than its field.
-- Assumes nothing.
use Prim.Native.Nat.{ℕ, suc, ◌*◌, ◌^◌, ◌<◌, ◌≤◌}
use mathlib.Core.Path.{◌≡◌, refl}
use mathlib.Core.Bool.{Bool, true, false}
use mathlib.Core.List.{List}
use native.Mathlib.Omega.{arith}
use borrow.Author.Tests.{ltb-true, leb-true, lt-ltb}
use lib.Dec.{leb, lit≤}
use lib.IntN.{ℤ, pos, negsuc, nat_abs}
use lib.ListN.{length}
use Rattle.paper.specs.Refusals.{bad_range}
use Rattle.digits.specs.Digits.{Bytes}
use Rattle.states.proofs.Rule.{listed_small}
use Rattle.formats.specs.Format.{got, HoldsWhen, such}
use Rattle.integers.specs.Integer.{limit}
use Rattle.fields.specs.Integers.{Integers}
use Rattle.fields.proofs.Laws.{IntegersLaw, IntegersRange}
use Rattle.house.specs.Twos.{Holds}
use Rattle.house.specs.Layout.{contacts_most}
use Rattle.house.specs.Fits.{HeadFits, ContactFits, no_sides}
use Rattle.house.specs.declared.Sides.{Sides}
use Rattle.house.specs.declared.Contact.{Contact}
use Rattle.well_formed.specs.Range.{InRange}
use Rattle.well_formed.specs.WellFormed.{all, has, above, place_most, side_most, orientation_most, pressure_most, sides_well, at_most, contact_well}
use Rattle.well_formed.proofs.WellFormed.{in-range}
use Rattle.framing.specs.Frame.{Frame, head_of}
use Rattle.framing.proofs.Laws.{frame-law}
use Rattle.framing.specs.Format.{frame_format, frame_head_format, offset}
use Rattle.touch.specs.Limits.{touch_limits}
use Rattle.touch.specs.Touch.{point, sides, optional, contact, frame}
use Rattle.touch.proofs.Laws.{contact-law}

-- ---- signed values

holds : (w n : ℕ) (z : ℤ) → nat_abs z < n → 2 * n ≤ 2 ^ w → Holds w z
holds w n (pos m) h k = record { holds = omega arith }
holds w n (negsuc m) h k = record { holds = omega arith }

above_most : (n : ℕ) (z : ℤ) → nat_abs z < suc n → above n z ≡ true
unfolding above
above_most n (pos m) h = refl
above_most n (negsuc m) h = lt-ltb m n (omega arith)

-- ---- what is needed of a record

-- each side is of 15 bits
record SidesFit (s : Sides) : Type 0 where
  pub left : Holds 15 s.left
  pub top : Holds 15 s.top
  pub right : Holds 15 s.right
  pub bottom : Holds 15 s.bottom

-- what a record of a contact needs, and the range of each value
pub record ContactRead (c : Contact) : Type 0 where
  pub fits : ContactFits c
  pub well : contact_well c ≡ true
  pub range : InRange c

-- ---- over any integers that hold what is in their range

module _ (i : Integers) (r : IntegersRange i) where
  -- parts that may be absent

  abbrev SidesHold : Bool → Sides → Type 0
  SidesHold there s = HoldsWhen there (sides i).Holds no_sides s

  sides-well : (there : Bool) (s : Sides) → SidesHold there s → sides_well there s ≡ true
  unfolding sides sides_well all
  sides-well true s h =
      let one : (z : ℤ) → i.s2.Holds z → above side_most z ≡ true = λ z k. above_most side_most z ((r.s2 z).0 k) in
      rw (one s.left h.0, one s.top h.1.0, one s.right h.1.1.0, one s.bottom h.1.1.1.0)
  sides-well false s h = rw h

  sides-fit : (there : Bool) (s : Sides) → SidesHold there s → SidesFit s
  unfolding sides
  sides-fit true s h =
      let one : (z : ℤ) → i.s2.Holds z → Holds 15 z = λ z k. holds 15 (limit 1 1) z ((r.s2 z).0 k) (lit≤ tt) in
      record { left = one s.left h.0; top = one s.top h.1.0; right = one s.right h.1.1.0; bottom = one s.bottom h.1.1.1.0 }
  sides-fit false s h =
      let none : Holds 15 (pos 0) = record { holds = omega arith } in
      rw h (record { left = none; top = none; right = none; bottom = none })

  abbrev NumberHolds : Bool → ℕ → ℕ → Type 0
  NumberHolds there most v = HoldsWhen there (such i.u4 (λ v. leb v most) bad_range).Holds 0 v

  number-well : (there : Bool) (most v : ℕ) → NumberHolds there most v → at_most there most v ≡ true
  number-well true most v h = h.1
  number-well false most v h = rw h

  number-most : (there : Bool) (most v : ℕ) → NumberHolds there most v → v ≤ most
  number-most true most v h = leb-true v most h.1
  number-most false most v h = omega arith

  -- ---- a contact

  pub contact-fits : (c : Contact) → (contact i).Holds c → ContactFits c
  unfolding contact point optional
  contact-fits c h =
      let present = h.1.0 in
      let place = h.1.1.0 in
      let flags = h.1.1.1.0 in
      let more = h.1.1.1.1.0 in
      let p = c.present in
      let s = sides-fit (has 1 p) c.sides more.0 in
      let turn = number-most (has 2 p) orientation_most c.orientation more.1.0 in
      let press = number-most (has 4 p) pressure_most c.pressure more.1.1.0 in
      record {
        flags = listed_small c.flags flags.1;
        present = ltb-true p 8 present.1;
        id = h.0;
        x = holds 30 (limit 2 1) c.place.x ((r.s4 c.place.x).0 place.0) (lit≤ tt);
        y = holds 30 (limit 2 1) c.place.y ((r.s4 c.place.y).0 place.1.0) (lit≤ tt);
        left = s.left;
        top = s.top;
        right = s.right;
        bottom = s.bottom;
        orientation = omega arith;
        pressure = omega arith;
      }

  pub contact-well : (c : Contact) → (contact i).Holds c → contact_well c ≡ true
  unfolding contact point optional contact_well all
  contact-well c h =
      let place = h.1.1.0 in
      let flags = h.1.1.1.0 in
      let more = h.1.1.1.1.0 in
      let p = c.present in
      rw (
        flags.1,
        above_most place_most c.place.x ((r.s4 c.place.x).0 place.0),
        above_most place_most c.place.y ((r.s4 c.place.y).0 place.1.0),
        sides-well (has 1 p) c.sides more.0,
        number-well (has 2 p) orientation_most c.orientation more.1.0,
        number-well (has 4 p) pressure_most c.pressure more.1.1.0,
      )

  -- ---- a frame

  offset-holds : (judged : Bool) (o : ℕ) → (offset i judged).Holds o → o < 2 ^ 61
  offset-holds true o h = (r.u8 o).0 h.0
  offset-holds false o h = (r.u8 o).0 h

  pub frame-holds : (judged : Bool) (f : Frame Contact) → (frame i judged).Holds f → HeadFits (head_of f)
  unfolding frame_format frame_head_format
  frame-holds judged f h =
      record { count = leb-true (length f.contacts) contacts_most h.0.0.1; offset = offset-holds judged f.offset.0 h.0.1.0 }

  -- ---- what was read

  module _ {X : Type 0} (law : IntegersLaw X i) where
    pub contact-read : (l : List ℕ) (c : Contact) (t : List ℕ) → Bytes l → (contact i).read l ≡ got c t → ContactRead c
    contact-read l c t hl e =
        let h = ((contact-law i law).sound l c t hl e).0 in
        let f = contact-fits c h in
        let w = contact-well c h in
        record { fits = f; well = w; range = in-range c f w }

    pub frame-fits : (judged : Bool) (l : List ℕ) (f : Frame Contact) (t : List ℕ) → Bytes l → (frame i judged).read l ≡ got f t → HeadFits (head_of f)
    frame-fits judged l f t hl e = frame-holds judged f ((frame-law i law touch_limits (contact i) (contact-law i law) judged).sound l f t hl e).0

-- The touch message of 000, 2.2.3.3, field by field, over the five integers. "3, touch: encodeTime U4, frameCount U2, frames. A frame:
-- contactCount U2, frameOffset U8, contacts. A contact: id 1 byte, fieldsPresent U2, x S4, y S4, contactFlags U4; then if bit 1, four S2 (left,
-- top, right, bottom); if bit 2, orientation U4, 0 to 359; if bit 4, pressure U4, 0 to 65000."
use Rattle.std.specs.Prelude.{ℕ, Bool, List, ltb, leb}
use Rattle.paper.specs.Refusals.{bad_field, bad_flags, bad_range}
use Rattle.states.specs.Table.{listed}
use Rattle.formats.specs.Format.{Got, Format, done, field, such, when, byte}
use Rattle.fields.specs.Integers.{Integers}
use Rattle.house.specs.Layout.{contact_bytes, touched}
use Rattle.house.specs.Fits.{no_sides}
use Rattle.house.specs.declared.Head.{Head}
use Rattle.house.specs.declared.Point.{Point}
use Rattle.house.specs.declared.Sides.{Sides}
use Rattle.house.specs.declared.Contact.{Contact}
use Rattle.well_formed.specs.WellFormed.{has, orientation_most, pressure_most}
use Rattle.framing.specs.Frame.{Frame, Body}
use Rattle.framing.specs.Format.{frame_head_format, body_head_format, frame_format, body_format, whole_body}
use Rattle.framing.specs.declared.BodyHead.{BodyHead}
use Rattle.touch.specs.declared.Optional.{Optional}
use Rattle.touch.specs.Limits.{touch_limits}

-- a touch message's body, and the record of a frame's contact
abbrev pub Touch : Type 0
Touch = Body Contact

abbrev pub touch_record : Contact → List ℕ
touch_record = contact_bytes touched

-- the optional fields of a contact
abbrev pub optional_of : Contact → Optional
optional_of c = record { sides = c.sides; orientation = c.orientation; pressure = c.pressure }

module _ (i : Integers) where
  -- ---- a contact

  -- fieldsPresent: bits 1, 2 and 4 only
  abbrev pub present : Format ℕ
  present = such i.u2 (λ p. ltb p 8) bad_field

  unfoldable pub point : Format Point
  point =
      field i.s4 (λ p. p.x) λ x.
      field i.s4 (λ p. p.y) λ y.
      done (record { x = x; y = y })

  abbrev pub flags : Format ℕ
  flags = such i.u4 listed bad_flags

  unfoldable pub sides : Format Sides
  sides =
      field i.s2 (λ s. s.left) λ left.
      field i.s2 (λ s. s.top) λ top.
      field i.s2 (λ s. s.right) λ right.
      field i.s2 (λ s. s.bottom) λ bottom.
      done (record { left = left; top = top; right = right; bottom = bottom })

  abbrev pub orientation : Format ℕ
  orientation = such i.u4 (λ v. leb v orientation_most) bad_range

  abbrev pub pressure : Format ℕ
  pressure = such i.u4 (λ v. leb v pressure_most) bad_range

  -- "then if bit 1, four S2 ..; if bit 2, orientation ..; if bit 4, pressure"
  unfoldable pub optional : ℕ → Format Optional
  optional p =
      field (when (has 1 p) sides no_sides) (λ o. o.sides) λ s.
      field (when (has 2 p) orientation 0) (λ o. o.orientation) λ a.
      field (when (has 4 p) pressure 0) (λ o. o.pressure) λ r.
      done (record { sides = s; orientation = a; pressure = r })

  unfoldable pub contact : Format Contact
  contact =
      field byte (λ c. c.id) λ id.
      field present (λ c. c.present) λ p.
      field point (λ c. c.place) λ place.
      field flags (λ c. c.flags) λ f.
      field (optional p) optional_of λ o.
      done (record { flags = f; present = p; id = id; place = place; sides = o.sides; orientation = o.orientation; pressure = o.pressure })

  -- ---- frames, and the body

  abbrev pub frame_head : Bool → Format Head
  frame_head = frame_head_format i touch_limits

  abbrev pub frame : Bool → Format (Frame Contact)
  frame = frame_format i touch_limits contact

  abbrev pub touch_head : Format BodyHead
  touch_head = body_head_format i touch_limits

  abbrev pub touch : Bool → Format Touch
  touch = body_format i touch_limits contact

  abbrev pub body : Bool → List ℕ → Got Touch
  body = whole_body i touch_limits contact

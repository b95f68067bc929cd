-- What the fields of a record hold: the ranges of a head's and of a contact's values.
use Rattle.std.specs.Prelude.{◌^◌, ◌<◌, ◌≤◌, pos}
use Rattle.house.specs.Twos.{Holds}
use Rattle.house.specs.Layout.{contacts_most}
use Rattle.house.specs.declared.Head.{Head}
use Rattle.house.specs.declared.Contact.{Contact}
use Rattle.house.specs.declared.Sides.{Sides}

-- a count is one that a message can have, which nine bits hold, and no other value is wider than its field
pub record HeadFits (h : Head) : Type 0 where
  pub count : h.count ≤ contacts_most
  pub offset : h.offset.0 < 2 ^ 61

pub record ContactFits (c : Contact) : Type 0 where
  pub flags : c.flags < 2 ^ 6
  pub present : c.present < 2 ^ 3
  pub id : c.id < 2 ^ 8
  pub x : Holds 30 c.place.x
  pub y : Holds 30 c.place.y
  pub left : Holds 15 c.sides.left
  pub top : Holds 15 c.sides.top
  pub right : Holds 15 c.sides.right
  pub bottom : Holds 15 c.sides.bottom
  pub orientation : c.orientation < 2 ^ 9
  pub pressure : c.pressure < 2 ^ 16

abbrev pub no_sides : Sides
no_sides = record { left = pos 0; top = pos 0; right = pos 0; bottom = pos 0 }

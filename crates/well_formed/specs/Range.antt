-- What a message holds: the ranges of a contact's values.
use Rattle.std.specs.Prelude.{◌≤◌, ◌≡◌, true, false, nat_abs}
use Rattle.states.specs.Table.{listed}
use Rattle.house.specs.Fits.{no_sides}
use Rattle.house.specs.declared.Contact.{Contact}
use Rattle.well_formed.specs.WellFormed.{has, place_most, side_most, orientation_most, pressure_most}

-- every value is one that a message can carry, and what is absent is 0
pub record InRange (c : Contact) : Type 0 where
  pub flags : listed c.flags ≡ true
  pub x : nat_abs c.place.x ≤ place_most
  pub y : nat_abs c.place.y ≤ place_most
  pub left : nat_abs c.sides.left ≤ side_most
  pub top : nat_abs c.sides.top ≤ side_most
  pub right : nat_abs c.sides.right ≤ side_most
  pub bottom : nat_abs c.sides.bottom ≤ side_most
  pub orientation : c.orientation ≤ orientation_most
  pub pressure : c.pressure ≤ pressure_most
  pub absent_sides : has 1 c.present ≡ false → c.sides ≡ no_sides
  pub absent_orientation : has 2 c.present ≡ false → c.orientation ≡ 0
  pub absent_pressure : has 4 c.present ≡ false → c.pressure ≡ 0

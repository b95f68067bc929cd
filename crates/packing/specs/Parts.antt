-- The parts of a contact's layout.
use Rattle.std.specs.Prelude.{ℕ, List, [], ◌∷◌}
use Rattle.house.specs.Fields.{Field, field}
use Rattle.house.specs.Layout.{signed}
use Rattle.house.specs.declared.Contact.{Contact}
use Rattle.house.specs.declared.Point.{Point}
use Rattle.house.specs.declared.Sides.{Sides}

abbrev pub lead_fields : ℕ → Contact → List Field
lead_fields kind c = field 2 kind ∷ field 6 c.flags ∷ field 3 c.present ∷ field 8 c.id ∷ []

abbrev pub point_fields : Point → List Field
point_fields p = signed 30 p.x ∷ signed 30 p.y ∷ []

abbrev pub sides_fields : Sides → List Field
sides_fields s = signed 15 s.left ∷ signed 15 s.top ∷ signed 15 s.right ∷ signed 15 s.bottom ∷ []

abbrev pub last_fields : Contact → List Field
last_fields c = field 9 c.orientation ∷ field 16 c.pressure ∷ field 4 0 ∷ []

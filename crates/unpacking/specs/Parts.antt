-- The parts of a contact that is read.
use Rattle.std.specs.Prelude.{List}
use Rattle.house.specs.Fields.{Field, value_at}
use Rattle.house.specs.Twos.{of_twos}
use Rattle.house.specs.declared.Point.{Point}
use Rattle.house.specs.declared.Sides.{Sides}

abbrev pub point_as : List Field → Point
point_as fs = record { x = of_twos 30 (value_at 4 fs); y = of_twos 30 (value_at 5 fs) }

abbrev pub sides_as : List Field → Sides
sides_as fs = record {
  left = of_twos 15 (value_at 6 fs);
  top = of_twos 15 (value_at 7 fs);
  right = of_twos 15 (value_at 8 fs);
  bottom = of_twos 15 (value_at 9 fs);
}

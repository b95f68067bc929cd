-- `unpacking::read::read_contact` meets its contract: each field is what its reader gives.
-- Assumes nothing.
use Rattle.house.specs.Fields.{unpacked}
use Rattle.house.specs.Layout.{contact_of}
use Rattle.unpacking.proofs.read.read_contact.Goals as goal

pub returns : goal.returns
unfolding unpacked contact_of
returns c =
    λ i. record {
      flags = c.get-flags.ensures.0 i;
      present = c.get-present.ensures.0 i;
      id = c.get-id.ensures.0 i;
      place = c.read_point-place.ensures i;
      sides = c.read_sides-sides.ensures i;
      orientation = c.get-orientation.ensures.0 i;
      pressure = c.get-pressure.ensures.0 i;
    }

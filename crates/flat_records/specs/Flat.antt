-- A house record as numbers alone, for callers that have no enums (document 01, "House records").
use Rattle.std.specs.Prelude.{ℕ, cond, List, pos}
use Rattle.paper.specs.Refusals.{none, bad_record}
use Rattle.paper.specs.declared.Microseconds.{Microseconds}
use Rattle.house.specs.Layout.{head, record_of}
use Rattle.house.specs.declared.Head.{Head}
use Rattle.house.specs.declared.Contact.{Contact}
use Rattle.house.specs.declared.Record.{Record}
use Rattle.well_formed.specs.WellFormed.{well_formed}
use Rattle.flat_records.specs.declared.FlatRecord.{FlatRecord}

-- with no contact in it: kind 0, which is a head's, and every field of a contact 0
abbrev pub bare : ℕ → ℕ → Microseconds → FlatRecord
bare refusal count offset = record {
  refusal = refusal;
  kind = head;
  count = count;
  flags = 0;
  present = 0;
  id = 0;
  orientation = 0;
  pressure = 0;
  left = pos 0;
  top = pos 0;
  right = pos 0;
  bottom = pos 0;
  x = pos 0;
  y = pos 0;
  offset = offset;
}

-- "A refusal answers its number with all other fields 0"
abbrev pub refused : ℕ → FlatRecord
refused e = bare e 0 (record { 0 = 0 })

-- "Head: kind 0 .., contact count .., offset"
abbrev pub flat_head : Head → FlatRecord
flat_head h = bare none h.count h.offset

-- "Contact: kind (2), flags (6), fieldsPresent (3), id (8), x (30), y (30), left, top, right, bottom (15 each), orientation (9),
-- pressure (16)": a head's fields are 0
abbrev pub flat_contact : ℕ → Contact → FlatRecord
flat_contact kind c = record {
  refusal = none;
  kind = kind;
  count = 0;
  flags = c.flags;
  present = c.present;
  id = c.id;
  orientation = c.orientation;
  pressure = c.pressure;
  left = c.sides.left;
  top = c.sides.top;
  right = c.sides.right;
  bottom = c.sides.bottom;
  x = c.place.x;
  y = c.place.y;
  offset = record { 0 = 0 };
}

abbrev pub flattened : Record → FlatRecord
flattened (Record.Head h) = flat_head h
flattened (Record.Contact kind c) = flat_contact kind c
flattened (Record.Refused e) = refused e

-- the record at the front of a slice of records; 14 where it is not whole or not well formed
unfoldable pub flat : List ℕ → FlatRecord
flat l = cond (well_formed l) (flattened (record_of l)) (refused bad_record)

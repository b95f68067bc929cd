-- Document 01, "House records": the layouts of heads and contacts, and what stands at the front of a slice of records.
use Rattle.std.specs.Prelude.{ℕ, ◌+◌, ◌*◌, ◌/◌, ◌^◌, Bool, false, cond, List, [], ◌∷◌, ℤ, length, take, leb, eqb}
use Rattle.paper.specs.Refusals.{bad_record}
use Rattle.house.specs.Fields.{Field, field, record_bytes, packed, unpacked, value_at}
use Rattle.house.specs.Twos.{twos_of, of_twos}
use Rattle.house.specs.declared.Head.{Head}
use Rattle.house.specs.declared.Contact.{Contact}
use Rattle.house.specs.declared.Record.{Record}

-- ---- kinds

-- a frame's head
abbrev pub head : ℕ
head = 0

-- a frame's contact
abbrev pub touched : ℕ
touched = 1

abbrev pub cancelled : ℕ
cancelled = 2

abbrev pub dismissed : ℕ
dismissed = 3

-- ---- layouts

-- the most contacts of a frame (#107: "The limit of 63 becomes 256.")
abbrev pub contacts_most : ℕ
contacts_most = 256

-- "Head: kind 0 (2 bits), contact count (6), offset (61)"; #107: "The head's 6-bit count keeps its place as the low bits, and three high bits
-- go directly after the offset, which leaves 96 zeros."
abbrev pub head_fields : Head → List Field
head_fields h = field 2 head ∷ field 6 h.count ∷ field 61 h.offset.0 ∷ field 3 (h.count / 2 ^ 6) ∷ field 96 0 ∷ []

abbrev pub head_widths : List ℕ
head_widths = 2 ∷ 6 ∷ 61 ∷ 3 ∷ 96 ∷ []

abbrev pub signed : ℕ → ℤ → Field
signed w z = field w (twos_of w z)

-- "Contact: kind (2), flags (6), fieldsPresent (3), id (8), x (30), y (30), left, top, right, bottom (15 each), orientation (9),
-- pressure (16), 4 zeros."
abbrev pub contact_fields : ℕ → Contact → List Field
contact_fields kind c =
    field 2 kind ∷ field 6 c.flags ∷ field 3 c.present ∷ field 8 c.id
    ∷ signed 30 c.place.x ∷ signed 30 c.place.y
    ∷ signed 15 c.sides.left ∷ signed 15 c.sides.top ∷ signed 15 c.sides.right ∷ signed 15 c.sides.bottom
    ∷ field 9 c.orientation ∷ field 16 c.pressure ∷ field 4 0 ∷ []

abbrev pub contact_widths : List ℕ
contact_widths = 2 ∷ 6 ∷ 3 ∷ 8 ∷ 30 ∷ 30 ∷ 15 ∷ 15 ∷ 15 ∷ 15 ∷ 9 ∷ 16 ∷ 4 ∷ []

-- ---- the bytes of a record

unfoldable pub head_bytes : Head → List ℕ
head_bytes h = packed (head_fields h)

unfoldable pub contact_bytes : ℕ → Contact → List ℕ
contact_bytes kind c = packed (contact_fields kind c)

-- ---- reading

-- a head and a contact of their fields
abbrev pub head_as : List Field → Head
head_as fs = record { count = value_at 3 fs * 2 ^ 6 + value_at 1 fs; offset = record { 0 = value_at 2 fs } }

abbrev pub contact_as : List Field → Contact
contact_as fs = record {
  flags = value_at 1 fs;
  present = value_at 2 fs;
  id = value_at 3 fs;
  place = record { x = of_twos 30 (value_at 4 fs); y = of_twos 30 (value_at 5 fs) };
  sides = record {
    left = of_twos 15 (value_at 6 fs);
    top = of_twos 15 (value_at 7 fs);
    right = of_twos 15 (value_at 8 fs);
    bottom = of_twos 15 (value_at 9 fs);
  };
  orientation = value_at 10 fs;
  pressure = value_at 11 fs;
}

-- of a record's 21 bytes
unfoldable pub kind_of : List ℕ → ℕ
kind_of s = value_at 0 (unpacked head_widths s)

unfoldable pub head_in : List ℕ → Head
head_in s = head_as (unpacked head_widths s)

unfoldable pub contact_of : List ℕ → Contact
contact_of s = contact_as (unpacked contact_widths s)

-- the unused bits, those behind every value
unfoldable pub head_spare : List ℕ → ℕ
head_spare s = value_at 4 (unpacked head_widths s)

unfoldable pub contact_spare : List ℕ → ℕ
contact_spare s = value_at 12 (unpacked contact_widths s)

-- the record at the front of a slice of records; 14 where it is not whole
unfoldable pub record_of : List ℕ → Record
record_of l =
    let s : List ℕ = take record_bytes l in
    cond (leb record_bytes (length l))
    (cond (eqb (kind_of s) head) (Record.Head (head_in s)) (Record.Contact (kind_of s) (contact_of s)))
    (Record.Refused bad_record)

-- its unused bits are 0; false where it is not whole
unfoldable pub spare_zero : List ℕ → Bool
spare_zero l =
    let s : List ℕ = take record_bytes l in
    cond (leb record_bytes (length l)) (eqb (cond (eqb (kind_of s) head) (head_spare s) (contact_spare s)) 0) false

-- a record's bytes
unfoldable pub bytes_of : Record → List ℕ
bytes_of (Record.Head h) = head_bytes h
bytes_of (Record.Contact kind c) = contact_bytes kind c
bytes_of (Record.Refused e) = []

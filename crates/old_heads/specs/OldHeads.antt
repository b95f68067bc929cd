-- THE OLDER READER: heads as document 01 has them, before #107. Nothing is read or written by these definitions any more. They are kept for what is
-- promised of record files that were written by them, and of readers that have not been changed.
use Rattle.std.specs.Prelude.{ℕ, Bool, cond, List, [], ◌∷◌, ◌++◌, take, eqb}
use Rattle.paper.specs.Refusals.{bad_record}
use Rattle.house.specs.Fields.{Field, field, record_bytes, packed, unpacked, value_at}
use Rattle.house.specs.Layout.{head, contact_bytes, record_of}
use Rattle.house.specs.declared.Head.{Head}
use Rattle.house.specs.declared.Record.{Record}
use Rattle.house.specs.declared.Record.TheVariants as Record
use Rattle.well_formed.specs.WellFormed.{well_formed}

-- "63 contacts in a frame"
abbrev pub old_contacts_most : ℕ
old_contacts_most = 63

-- ---- the layout

-- "Head: kind 0 (2 bits), contact count (6), offset (61), 99 zeros."
abbrev pub old_head_fields : Head → List Field
old_head_fields h = field 2 head ∷ field 6 h.count ∷ field 61 h.offset.0 ∷ field 99 0 ∷ []

abbrev pub old_head_widths : List ℕ
old_head_widths = 2 ∷ 6 ∷ 61 ∷ 99 ∷ []

unfoldable pub old_head_bytes : Head → List ℕ
old_head_bytes h = packed (old_head_fields h)

-- records in bytes, one after the other: all but heads as they are today
unfoldable pub old_bytes_of : Record → List ℕ
old_bytes_of (Record.Head h) = old_head_bytes h
old_bytes_of (Record.Contact kind c) = contact_bytes kind c
old_bytes_of (Record.Refused e) = []

unfoldable pub old_file : List Record → List ℕ
old_file [] = []
old_file (r ∷ rs) = old_bytes_of r ++ old_file rs

-- ---- reading

abbrev pub old_head_as : List Field → Head
old_head_as fs = record { count = value_at 1 fs; offset = record { 0 = value_at 2 fs } }

-- of a record's 21 bytes
unfoldable pub old_head_in : List ℕ → Head
old_head_in s = old_head_as (unpacked old_head_widths s)

unfoldable pub old_head_spare : List ℕ → ℕ
old_head_spare s = value_at 3 (unpacked old_head_widths s)

-- the record at the front of a slice of records: what today's reading calls a head is read as heads were, and all else as it is today
abbrev pub old_of : List ℕ → Record → Record
old_of s (Record.Head h) = Record.Head (old_head_in s)
old_of s (Record.Contact kind c) = Record.Contact kind c
old_of s (Record.Refused e) = Record.Refused e

unfoldable pub old_record_of : List ℕ → Record
old_record_of l = old_of (take record_bytes l) (record_of l)

-- and whether it is well formed: "a nonzero unused .. field" was all that a head could be refused for
abbrev pub old_well_as : List ℕ → Record → Bool
old_well_as l (Record.Head h) = eqb (old_head_spare (take record_bytes l)) 0
old_well_as l (Record.Contact kind c) = well_formed l
old_well_as l (Record.Refused e) = well_formed l

unfoldable pub old_well_formed : List ℕ → Bool
old_well_formed l = old_well_as l (record_of l)

-- what a reader makes of the record at the front: 14 where it is not well formed
unfoldable pub old_reading : List ℕ → Record
old_reading l = cond (old_well_formed l) (old_record_of l) (Record.Refused bad_record)

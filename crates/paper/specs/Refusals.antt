-- Document 01, "Refusal numbers and their order"; from 15 on, document 02.
use Rattle.std.specs.Prelude.{ℕ}
use Rattle.paper.specs.declared.Refusal.{Refusal}
use Rattle.paper.specs.declared.Refusal.TheVariants.{Short, TooLong, Unexpected, BadLength, Truncated, NotShortest, BadCount, BadField, BadFlags, BadRange, BadOffset, Trailing, NoRoom, BadRecord, NotReady, Suspended, Illegal, BadBatch}

-- no refusal
abbrev pub none : ℕ
none = 0

-- under 6 bytes
abbrev pub short : ℕ
short = 1

-- over 4,096 bytes, read or to be written
abbrev pub too_long : ℕ
too_long = 2

-- event not taken now
abbrev pub unexpected : ℕ
unexpected = 3

-- pduLength differs from the slice's length
abbrev pub bad_length : ℕ
bad_length = 4

-- the body ends inside a field, or before one that is due
abbrev pub truncated : ℕ
truncated = 5

-- an integer not in its only form
abbrev pub not_shortest : ℕ
not_shortest = 6

-- frames over 64, contacts over 256 (#107)
abbrev pub bad_count : ℕ
bad_count = 7

-- version, ready flags or fieldsPresent not listed
abbrev pub bad_field : ℕ
bad_field = 8

-- contactFlags not in the state table
abbrev pub bad_flags : ℕ
bad_flags = 9

-- orientation, pressure; a value given to a writer
abbrev pub bad_range : ℕ
bad_range = 10

-- the first frame's offset not 0
abbrev pub bad_offset : ℕ
bad_offset = 11

-- bytes after the last field
abbrev pub trailing : ℕ
trailing = 12

-- output shorter than what this call writes
abbrev pub no_room : ℕ
no_room = 13

-- a writer's record not well formed
abbrev pub bad_record : ℕ
bad_record = 14

-- client ready before server ready was taken or a second time; touch or dismiss before client ready
abbrev pub not_ready : ℕ
not_ready = 15

-- touch while suspended
abbrev pub suspended : ℕ
suspended = 16

-- a frame that would not conform, or a dismissal of a contact not hovering
abbrev pub illegal : ℕ
illegal = 17

-- a batch whose last entry is incomplete, or with fewer places for answers than entries
abbrev pub bad_batch : ℕ
bad_batch = 18

-- the number of a refusal
abbrev pub number : Refusal → ℕ
number Short = short
number TooLong = too_long
number Unexpected = unexpected
number BadLength = bad_length
number Truncated = truncated
number NotShortest = not_shortest
number BadCount = bad_count
number BadField = bad_field
number BadFlags = bad_flags
number BadRange = bad_range
number BadOffset = bad_offset
number Trailing = trailing
number NoRoom = no_room
number BadRecord = bad_record
number NotReady = not_ready
number Suspended = suspended
number Illegal = illegal
number BadBatch = bad_batch

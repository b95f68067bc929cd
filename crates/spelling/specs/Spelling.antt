-- A record as the fields of a message.
use Rattle.std.specs.Prelude.{ℕ, false, List, []}
use Rattle.fields.specs.Integers.{taken}
use Rattle.house.specs.declared.Record.{Record}
use Rattle.touch.specs.Touch.{contact, frame_head}

-- a head is what stands before a frame's contacts
abbrev pub spelling : Record → List ℕ
spelling (Record.Head h) = (frame_head taken false).write h
spelling (Record.Contact kind c) = (contact taken).write c
spelling (Record.Refused e) = []

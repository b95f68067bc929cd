-- Records as the fields of a message, one record after the other.
use Rattle.std.specs.Prelude.{ℕ, zero, suc, ◌≤◌, false, List, [], ◌++◌, length, drop}
use Rattle.fields.specs.Integers.{taken}
use Rattle.house.specs.Fields.{record_bytes}
use Rattle.house.specs.Layout.{record_of}
use Rattle.house.specs.declared.Record.{Record}
use Rattle.paper.specs.declared.Milliseconds.{Milliseconds}
use Rattle.touch.specs.Touch.{contact, frame_head, touch_head}
use Rattle.spelling.specs.Spelling.{spelling}

-- a record that can stand in a message
abbrev pub Spells : Record → Type 0
Spells (Record.Head h) = (frame_head taken false).Holds h
Spells (Record.Contact kind c) = (contact taken).Holds c
Spells (Record.Refused e) = ⊥

-- n records
unfoldable pub spelt : ℕ → List ℕ → List ℕ
spelt zero l = []
spelt (suc n) l = spelling (record_of l) ++ spelt n (drop record_bytes l)

-- each can stand in a message
unfoldable pub Spelt : ℕ → List ℕ → Type 0
Spelt zero l = Unit {0}
Spelt (suc n) l = Spells (record_of l) × (record_bytes ≤ length l) × Spelt n (drop record_bytes l)

-- the body of a message of n records in so many frames
abbrev pub body_of : Milliseconds → ℕ → ℕ → List ℕ → List ℕ
body_of time frames n l = (touch_head taken).write (record { time = time; frames = frames }) ++ spelt n l

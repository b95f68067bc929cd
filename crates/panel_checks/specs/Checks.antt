-- What is judged of a touch message beside its frames' contacts.
use Rattle.std.specs.Prelude.{ℕ, Bool, true, cond, not, List, eqb}
use Rattle.paper.specs.Refusals.{not_ready}
use Rattle.paper.specs.Refusals as refusals
use Rattle.formats.specs.Format.{Got, got, bad, and_then}
use Rattle.house.specs.declared.Contact.{Contact}
use Rattle.house.specs.declared.Record.{Record}
use Rattle.framing.specs.Frame.{Frame}
use Rattle.channel.specs.Marks.{off, judged_by}

-- 15 and 16, of frames that have passed 10 and 14
abbrev pub permitted : ℕ → ℕ → Got (List (Frame Contact)) → Got (List (Frame Contact))
permitted ready suspended x =
    and_then x (λ fs t. cond (off ready) (bad not_ready) (cond (not (off suspended)) (bad refusals.suspended) (got fs t)))

-- the offset of a head, and 0 of any other record
abbrev pub offset_in : Record → ℕ
offset_in (Record.Head h) = h.offset.0
offset_in (Record.Contact kind c) = 0
offset_in (Record.Refused e) = 0

-- the first frame's offset is 0 where it has to be, of the record at the front
abbrev pub first_stands : ℕ → ℕ → Record → Bool
first_stands flags begun r = cond (judged_by flags begun) (eqb (offset_in r) 0) true

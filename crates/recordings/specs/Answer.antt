-- What the code's answers mean, of a record and of the frames of a slice of records.
use Rattle.std.specs.Prelude.{ℕ, Bool, false, cond, List, [], eqb, length}
use Rattle.formats.specs.Format.{Got, got, bad}
use Rattle.house.specs.declared.Record.{Record}
use Rattle.house.specs.declared.Contact.{Contact}
use Rattle.well_formed.specs.WellFormed.{well_as}
use Rattle.framing.specs.Frame.{Frame}

-- the kind of a record, and no kind where there is no whole record
abbrev pub kind_in : Record → ℕ
kind_in (Record.Head h) = 0
kind_in (Record.Contact kind c) = kind
kind_in (Record.Refused e) = 255

-- the record r, read at the front of l, is well formed and of a kind
abbrev pub stands_as : ℕ → List ℕ → Record → Bool
stands_as kind l r = cond (well_as l r) (eqb (kind_in r) kind) false

-- how many contacts follow a record
abbrev pub contacts_after : Record → ℕ
contacts_after (Record.Head h) = h.count
contacts_after (Record.Contact kind c) = 0
contacts_after (Record.Refused e) = 0

-- how many frames there are
abbrev pub counted : Got (List (Frame Contact)) → Got ℕ
counted (got fs t) = got (length fs) []
counted (bad e) = bad e

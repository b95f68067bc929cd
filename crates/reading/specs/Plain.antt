-- The plain reading of document 01: it "takes only 3 and doesn't apply 11", and "answers the refusal, encodeTime and records written".
use Rattle.std.specs.Prelude.{ℕ, ◌/◌, ◌≡◌, Bool, true, false, List, length}
use Rattle.paper.specs.Refusals.{none}
use Rattle.paper.specs.declared.Milliseconds.{Milliseconds}
use Rattle.slices.specs.Writing.{Draft, bytes, refuse, given, left}
use Rattle.formats.specs.Format.{Got, got, bad}
use Rattle.fields.specs.Integers.{taken_by}
use Rattle.house.specs.Fields.{record_bytes}
use Rattle.messages.specs.Header.{read_message}
use Rattle.messages.specs.Header as event
use Rattle.framing.specs.Frame.{frames_bytes}
use Rattle.touch.specs.Touch.{Touch, touch, touch_record}
use Rattle.reading.specs.declared.PlainAnswer.{PlainAnswer}

-- what a message says: checks 1 to 4, the body left to right, 12; strictly with 6, or not
abbrev pub read_by : Bool → List ℕ → Got Touch
read_by strictly l = read_message event.touch (touch (taken_by strictly) false) l

-- #104: "the plain reading now accept[s] every length that document 000 allows, and minus zero as zero"
abbrev pub plainly : List ℕ → Got Touch
plainly = read_by false

-- "A strict reading with 6 stays as a separate call for the bench."
abbrev pub read_strictly : List ℕ → Got Touch
read_strictly = read_by true

-- what is written, given room: the records of its frames
abbrev pub draft_of : Got Touch → Draft
draft_of (got m t) = bytes (frames_bytes touch_record m.frames)
draft_of (bad e) = refuse e

abbrev pub time_of : Got Touch → Milliseconds
time_of (got m t) = m.time
time_of (bad e) = record { 0 = 0 }

-- "A refusal answers its number with all other fields 0"
abbrev pub refusal : ℕ → PlainAnswer
refusal e = record { refusal = e; time = record { 0 = 0 }; records = 0 }

abbrev pub answered : Milliseconds → Draft → PlainAnswer
answered time (bytes s) = record { refusal = none; time = time; records = length s / record_bytes }
answered time (refuse e) = refusal e

-- THE CONTRACT: of a message l, lent an output that held `before`
pub record ReadsBy (strictly : Bool) (l : List ℕ) (a : PlainAnswer) (before after : List ℕ) : Type 0 where
  pub answer : a ≡ answered (time_of (read_by strictly l)) (given (length before) (draft_of (read_by strictly l)))
  pub output : after ≡ left before (given (length before) (draft_of (read_by strictly l)))

-- of the plain reading, and of the strict one
abbrev pub ReadsPlainly : List ℕ → PlainAnswer → List ℕ → List ℕ → Type 0
ReadsPlainly = ReadsBy false

abbrev pub ReadsStrictly : List ℕ → PlainAnswer → List ℕ → List ℕ → Type 0
ReadsStrictly = ReadsBy true

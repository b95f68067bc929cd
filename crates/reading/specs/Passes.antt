-- What the parts of the plain reading answer: the judging of a message, the pass that counts its records and the pass that writes them.
use Rattle.std.specs.Prelude.{ℕ, ◌*◌, ◌≤◌, ◌≡◌, Bool, false, List, [], length, Result, Ok, Err}
use Rattle.std.specs.Borrow.{Bor}
use Rattle.paper.specs.Refusals.{number}
use Rattle.paper.specs.declared.Refusal.{Refusal}
use Rattle.slices.specs.Writing.{laid}
use Rattle.formats.specs.Format.{Format, got, bad, series}
use Rattle.fields.specs.Integers.{taken}
use Rattle.house.specs.declared.Contact.{Contact}
use Rattle.framing.specs.Frame.{Frame, frames_bytes}
use Rattle.framing.specs.Format.{body_head_of}
use Rattle.touch.specs.Touch.{Touch, frame, touch_record}
use Rattle.framing.specs.declared.BodyHead.{BodyHead}
use Rattle.frame_records.specs.Frames.{record_count}
use Rattle.reading.specs.Plain.{read_by}

-- n frames, whose offsets are not judged
abbrev pub frames : ℕ → Format (List (Frame Contact))
frames n = series (frame taken) false n

-- a message that is read: what stands before its frames, and the bytes of these
pub record Reads (strictly : Bool) (l : List ℕ) (h : BodyHead) (frames_read : List ℕ) : Type 0 where
  pub message : Touch
  pub read : read_by strictly l ≡ got message []
  pub head : h ≡ body_head_of message
  pub frames : (frames h.frames).read frames_read ≡ got message.frames []

abbrev pub Judges : Bool → List ℕ → Result (BodyHead × Bor (List ℕ)) Refusal → Type 0
Judges strictly l (Ok (h, t)) = Reads strictly l h t.now
Judges strictly l (Err e) = read_by strictly l ≡ bad (number e)

-- r is how many records n frames have, if they can be read
pub record CountsRecords (n : ℕ) (l : List ℕ) (r : ℕ) : Type 0 where
  pub same : (fs : List (Frame Contact)) (t : List ℕ) → (frames n).read l ≡ got fs t → r ≡ record_count fs
  -- whatever is read: a head, and fewer than 65536 contacts
  pub most : r ≤ 65536 * n

-- n frames can be read, and there is room for their records
pub record Roomy (n : ℕ) (l : List ℕ) (room : ℕ) : Type 0 where
  pub whole : List (Frame Contact)
  pub read : (frames n).read l ≡ got whole []
  pub fits : length (frames_bytes touch_record whole) ≤ room

-- their records are written, and nothing past them
abbrev pub WritesFrames : ℕ → List ℕ → List ℕ → List ℕ → Type 0
WritesFrames n l before after = (fs : List (Frame Contact)) (t : List ℕ) → (frames n).read l ≡ got fs t → after ≡ laid before (frames_bytes touch_record fs)

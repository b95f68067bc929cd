-- The three ways of meeting the contract of a reading: a refusal of the message, no room, and the records of its frames.
-- Assumes nothing.
use Prim.Native.Nat.{ℕ, ◌/◌, ◌≤◌, ◌<◌}
use mathlib.Core.Path.{◌≡◌, sym, ap, ◌∙◌}
use mathlib.Core.Bool.{Bool}
use mathlib.Core.List.{List, []}
use native.Mathlib.Omega.{arith}
use lib.ListN.{length}
use Rattle.paper.specs.Refusals.{none, no_room}
use Rattle.slices.specs.Writing.{laid, Draft, bytes, refuse, given, left}
use Rattle.slices.proofs.Laws.{given-room, given-none, given-refuse}
use Rattle.formats.specs.Format.{Got, got, bad}
use Rattle.house.specs.declared.Contact.{Contact}
use Rattle.framing.specs.Frame.{Frame, frames_bytes}
use Rattle.touch.specs.Touch.{Touch, touch_record}
use Rattle.frame_records.specs.Frames.{record_count}
use Rattle.frame_records.proofs.Laws.{length-frames}
use Rattle.reading.specs.Plain.{read_by, draft_of, time_of, refusal, answered, ReadsBy}
use Rattle.reading.specs.declared.PlainAnswer.{PlainAnswer}

-- THE COUNT IS OF WHAT IS WRITTEN: the records that are counted are those whose bytes are
pub counted : (fs : List (Frame Contact)) → length (frames_bytes touch_record fs) / 21 ≡ record_count fs
counted fs = let n = length-frames fs in omega arith

module _ (strictly : Bool) (l : List ℕ) (a : PlainAnswer) (before after : List ℕ) where
  -- of what the message says and what is then written
  met : (x : Got Touch) (d : Draft) → read_by strictly l ≡ x → given (length before) (draft_of x) ≡ d → a ≡ answered (time_of x) d → after ≡ left before d → ReadsBy strictly l a before after
  met x d h k ea eo =
      record {
        answer = ea ∙ sym (ap (λ (y : Got Touch). answered (time_of y) (given (length before) (draft_of y))) h ∙ ap (answered (time_of x)) k);
        output = eo ∙ sym (ap (λ (y : Got Touch). left before (given (length before) (draft_of y))) h ∙ ap (left before) k);
      }

  pub plain-refused : (e : ℕ) → read_by strictly l ≡ bad e → a ≡ refusal e → after ≡ before → ReadsBy strictly l a before after
  plain-refused e h ea eo = met (bad e) (refuse e) h (given-refuse e (length before)) ea eo

  module _ (m : Touch) (h : read_by strictly l ≡ got m []) where
    pub plain-none : length before < length (frames_bytes touch_record m.frames) → a ≡ refusal no_room → after ≡ before → ReadsBy strictly l a before after
    plain-none k ea eo = met (got m []) (refuse no_room) h (given-none (frames_bytes touch_record m.frames) (length before) k) ea eo

    pub plain-read : length (frames_bytes touch_record m.frames) ≤ length before → a ≡ record { refusal = none; time = m.time; records = record_count m.frames }
        → after ≡ laid before (frames_bytes touch_record m.frames) → ReadsBy strictly l a before after
    plain-read k ea eo = met (got m []) (bytes (frames_bytes touch_record m.frames)) h (given-room (frames_bytes touch_record m.frames) (length before) k) (rw (counted m.frames) ea) eo

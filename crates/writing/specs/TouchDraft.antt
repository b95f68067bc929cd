-- The touch writer of document 01: it "takes encodeTime and a slice of records (an empty slice means no frames), and checks 10 (encodeTime), 14
-- over all records, 7, 2, 13".
use Rattle.std.specs.Prelude.{ℕ, false, cond, List, ltb, leb, length}
use Rattle.paper.specs.Refusals.{bad_range, bad_count, too_long}
use Rattle.paper.specs.declared.Milliseconds.{Milliseconds}
use Rattle.slices.specs.Writing.{Draft, bytes, refuse}
use Rattle.formats.specs.Format.{Got, got, bad}
use Rattle.integers.specs.Integer.{limit}
use Rattle.fields.specs.Integers.{taken}
use Rattle.messages.specs.Header.{write_message, most_bytes}
use Rattle.messages.specs.Header as event
use Rattle.touch.specs.Limits.{most_frames}
use Rattle.house.specs.declared.Contact.{Contact}
use Rattle.framing.specs.Frame.{Frame}
use Rattle.touch.specs.Touch.{touch}
use Rattle.recordings.specs.Records.{frames_in}

-- the message of a time and frames
abbrev pub message_of : Milliseconds → List (Frame Contact) → List ℕ
message_of time fs = write_message event.touch (touch taken false) (record { time = time; frames = fs })

-- 7, then 2
unfoldable pub frames_draft : Milliseconds → List (Frame Contact) → Draft
frames_draft time fs =
    cond (leb (length fs) most_frames)
    (cond (leb (length (message_of time fs)) most_bytes) (bytes (message_of time fs)) (refuse too_long))
    (refuse bad_count)

-- 10, for a time that U4 does not hold; then 14, over all records
unfoldable pub checked_frames : Milliseconds → List ℕ → Got (List (Frame Contact))
checked_frames time records = cond (ltb time.0 (limit 2 0)) (frames_in records) (bad bad_range)

abbrev pub draft_of : Milliseconds → Got (List (Frame Contact)) → Draft
draft_of time (got fs t) = frames_draft time fs
draft_of time (bad e) = refuse e

-- 13 is every writer's last check
unfoldable pub touch_draft : Milliseconds → List ℕ → Draft
touch_draft time records = draft_of time (checked_frames time records)

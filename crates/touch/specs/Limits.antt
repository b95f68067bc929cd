-- Document 01, "Messages": "Limits: .. 64 frames in a message"; of the contacts in a frame, #107's limit.
use Rattle.std.specs.Prelude.{ℕ}
use Rattle.house.specs.Layout.{contacts_most}
use Rattle.framing.specs.Format.{Limits}

abbrev pub most_frames : ℕ
most_frames = 64

abbrev pub touch_limits : Limits
touch_limits = record { frames = most_frames; contacts = contacts_most }

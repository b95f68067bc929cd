-- How many records a message can be of: a head for each frame, and its contacts.
use Rattle.std.specs.Prelude.{ℕ, ◌+◌, ◌*◌}
use Rattle.house.specs.Layout.{contacts_most}
use Rattle.touch.specs.Limits.{most_frames}

abbrev pub most_spelt : ℕ
most_spelt = most_frames * (1 + contacts_most)

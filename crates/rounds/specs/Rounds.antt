-- What one round of a run does: of whatever is read, the entries are fed as `intake` defines it.
use Rattle.std.specs.Prelude.{ℕ, ◌+◌, ◌≡◌, List, length}
use Rattle.feed.specs.Within.{Inside, bytes_in, Fills}
use Rattle.feed.specs.declared.Window.{Window}
use Rattle.receiver.specs.Limits.{most_output}
use Rattle.receiver.specs.Receive.{fresh}
use Rattle.intake.specs.Feeding.{TakesEntries}
use Rattle.intake.specs.declared.Fed.{Fed}
use Rattle.rounds.specs.declared.Round.{Round}

abbrev pub begun : Round
begun = record { receiver = fresh; window = record { at = 0; end = 0 }; entries = 0; records = 0 }

-- what a round answers of its entries, which took so many bytes
abbrev pub fed_in : Round → ℕ → Fed
fed_in r used = record { receiver = r.receiver; entries = r.entries; used = used; records = r.records }

-- THE CONTRACT of a round, from b to r. The space held s₀ and holds s, the list of answers a₀ and a, the output o₀ and o.
pub record GoesOn (b r : Round) (s₀ s a₀ a o₀ o : List ℕ) : Type 0 where
  -- "lending 48 KiB of output for each entry"; the window after more was read, and the bytes that were fed from its front
  pub filled : Window
  pub used : ℕ
  pub fills : Fills b.window filled s₀ s
  pub fed : TakesEntries most_output b.receiver (bytes_in filled s) (fed_in r used) a₀ a o₀ o
  pub rest : r.window ≡ record { at = filled.at + used; end = filled.end }
  -- what a caller needs, and follows
  pub window : Inside (length s) r.window

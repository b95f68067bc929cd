-- The judging of what is to be written, before any of it is.
use Rattle.std.specs.Prelude.{ℕ, ◌+◌, ◌/◌, ◌<◌, ◌≤◌, ◌≡◌, List, ◌++◌, length, Result, Ok, Err}
use Rattle.paper.specs.Refusals.{number}
use Rattle.paper.specs.declared.Milliseconds.{Milliseconds}
use Rattle.paper.specs.declared.Refusal.{Refusal}
use Rattle.slices.specs.Writing.{bytes, refuse, given}
use Rattle.integers.specs.Integer.{limit}
use Rattle.house.specs.Fields.{record_bytes}
use Rattle.messages.specs.Header.{header, header_bytes, most_bytes}
use Rattle.messages.specs.Header as event
use Rattle.writing.specs.Spelling.{Spelt, body_of}
use Rattle.writing.specs.TouchDraft.{touch_draft}

-- how many records a slice is of
abbrev pub records_in : List ℕ → ℕ
records_in l = length l / record_bytes

-- what passes all checks: records of n frames, that can be spelled, and whose message is of m bytes, for which there is room
pub record Judged (time : Milliseconds) (l : List ℕ) (room n m : ℕ) : Type 0 where
  pub early : time.0 < limit 2 0
  pub spelt : Spelt (records_in l) l
  pub total : m ≡ header_bytes + length (body_of time n (records_in l) l)
  pub draft : touch_draft time l ≡ bytes (header event.touch m ++ body_of time n (records_in l) l)
  pub most : m ≤ most_bytes
  pub fits : m ≤ room

-- THE CONTRACT OF JUDGING: how many frames and how many bytes, or the refusal that the writer gives
abbrev pub Judges : Milliseconds → List ℕ → ℕ → Result (ℕ × ℕ) Refusal → Type 0
Judges time l room (Ok (n, m)) = Judged time l room n m
Judges time l room (Err e) = given room (touch_draft time l) ≡ refuse (number e)

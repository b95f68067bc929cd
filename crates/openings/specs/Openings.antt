-- What the calls answer of the set of ids that is kept while ignoring: of a frame's contacts as they are read.
use Rattle.std.specs.Prelude.{ℕ, ◌≡◌, Bool, true, false, cond, List}
use Rattle.formats.specs.Format.{Got}
use Rattle.fields.specs.Integers.{taken}
use Rattle.house.specs.declared.Contact.{Contact}
use Rattle.touch.specs.Touch.{contact}
use Rattle.machine.specs.Held.{is_down, is_free, with_listing, opening}
use Rattle.contacts.specs.Touch.{touch_view}
use Rattle.contacts.specs.Ruling.{of_read}
use Rattle.framing.specs.After.{after_read}
use Rattle.moves.specs.Moves.{behind}

-- one contact, by the first or by the second of the two rules that make a frame opening
abbrev pub passes_by : Bool → List ℕ → Contact → Bool
passes_by hovers held c = cond hovers (is_free touch_view held c) (is_down touch_view c)

-- whether a frame is judged, running or not, of contacts that are read as x: those that cannot be read open nothing
abbrev pub judged_among : Bool → List ℕ → Got (List Contact) → Bool
judged_among running held x = cond running true (of_read false (opening touch_view held) x)

-- the n contacts at the front of l, of a frame that is ignored or cancelled: what they leave of the set, and what is behind them
pub record Lists (n : ℕ) (l left : List ℕ) (before after : List ℕ) : Type 0 where
  pub held : after ≡ after_read (with_listing touch_view) (contact taken) n before l
  pub passed : left ≡ behind (contact taken) n l

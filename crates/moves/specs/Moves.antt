-- What the calls leave of a table of contacts: a frame's contacts as they are read, and a dismissal by the room that it was lent.
use Rattle.std.specs.Prelude.{ℕ, ◌≡◌, cond, List, leb, length}
use Rattle.slices.specs.Writing.{bytes, Writes}
use Rattle.slices.specs.declared.Written.{Written}
use Rattle.formats.specs.Format.{Format}
use Rattle.framing.specs.After.{on_read, after_read}
use Rattle.states.specs.Table.{next}
use Rattle.house.specs.declared.Contact.{Contact}
use Rattle.machine.specs.Table.{Table}
use Rattle.machine.specs.Conforms.{moved}
use Rattle.machine.specs.Machine.{dismiss_table, dismiss_bytes}
use Rattle.contacts.specs.Touch.{touch_view}
use Rattle.contacts.specs.Ruling.{contacts_by}

-- one contact stored
abbrev pub Moves : Contact → Table → Table → Type 0
Moves c before after = after ≡ moved touch_view next before c

-- what is behind n contacts at the front of l; where they cannot all be read nothing is passed
abbrev pub behind : Format Contact → ℕ → List ℕ → List ℕ
behind format n l = on_read l (λ cs t. t) (contacts_by format n l)

-- the n contacts at the front of l stored, and what is behind them
pub record Applies (format : Format Contact) (n : ℕ) (l left : List ℕ) (before after : Table) : Type 0 where
  pub table : after ≡ after_read (moved touch_view next) format n before l
  pub passed : left ≡ behind format n l

-- a dismissal that finds too little room leaves the table as it was
unfoldable pub dismissed_in : ℕ → Table → ℕ → Table
dismissed_in room t id = cond (leb (length (dismiss_bytes touch_view t id)) room) (dismiss_table t id) t

pub record Dismisses (id : ℕ) (w : Written) (before after : List ℕ) (t u : Table) : Type 0 where
  pub writes : Writes (bytes (dismiss_bytes touch_view t id)) w before after
  pub table : u ≡ dismissed_in (length before) t id

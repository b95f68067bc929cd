-- The input of the programs over a panel: "an entry is a command". What an entry asks of the panel, and what the panel, the answer and the
-- output are once it is carried out.
use Rattle.std.specs.Prelude.{ℕ, ◌≡◌, true, false, cond, List, ◌++◌, eqb, leb, length, get_or, take, drop}
use Rattle.paper.specs.Refusals.{none}
use Rattle.paper.specs.declared.Milliseconds.{Milliseconds}
use Rattle.digits.specs.Digits.{joined}
use Rattle.messages.specs.declared.Ready.{Ready}
use Rattle.panels.specs.Panel.{Takes, Sends, Sending, ready_sending, touch_sending, dismiss_sending}
use Rattle.panels.specs.declared.Panel.{Panel}
use Rattle.commands.specs.declared.Obeyed.{Obeyed}

-- ---- what an entry asks

pub data Command : Type 0 where
  -- a message arrived
  arrives : List ℕ → Command
  -- client ready, with room and settings
  declares : ℕ → Ready → Command
  -- touch, with room, encode time and records
  touches : ℕ → Milliseconds → List ℕ → Command
  -- a dismissal, with room and id
  dismisses : ℕ → ℕ → Command
  -- none of these
  unknown : Command

-- the number of n bytes at a place, most significant first
abbrev pub number_at : ℕ → ℕ → List ℕ → ℕ
number_at at n l = joined 0 (take n (drop at l))

-- the first byte says which; where there is none this is 0, which says nothing
abbrev pub kind_of : List ℕ → ℕ
kind_of l = get_or l 0 0

abbrev pub room_in : List ℕ → ℕ
room_in l = number_at 1 2 l

abbrev pub settings_in : List ℕ → Ready
settings_in l = record { flags = number_at 3 4 l; version = number_at 7 4 l; most = number_at 11 2 l }

abbrev pub time_in : List ℕ → Milliseconds
time_in l = record { 0 = number_at 3 4 l }

-- "2, room (2 bytes), flags (4), version (4), most (2)"
unfoldable pub ready_in : List ℕ → Command
ready_in l = cond (eqb (length l) 13) (declares (room_in l) (settings_in l)) unknown

-- "3, room (2), encode time (4), records"
unfoldable pub touch_in : List ℕ → Command
touch_in l = cond (leb 7 (length l)) (touches (room_in l) (time_in l) (drop 7 l)) unknown

-- "6, room (2), id (1)"
unfoldable pub dismissal_in : List ℕ → Command
dismissal_in l = cond (eqb (length l) 4) (dismisses (room_in l) (get_or l 3 0)) unknown

-- "1 and a message that arrived (of any length, none too)"
unfoldable pub command_of : List ℕ → Command
command_of l =
    cond (eqb (kind_of l) 1) (arrives (drop 1 l))
    (cond (eqb (kind_of l) 2) (ready_in l)
    (cond (eqb (kind_of l) 3) (touch_in l)
    (cond (eqb (kind_of l) 6) (dismissal_in l)
    unknown)))

-- ---- a command carried out

-- "The first room bytes of an output .. are lent; more counts as" all of it
abbrev pub lent_of : ℕ → ℕ → ℕ
lent_of room all = cond (leb room all) room all

-- the first n bytes of the output are lent to the call, and those behind stay as they were
pub record Lends (n : ℕ) (p : Panel) (s : Sending) (r : Obeyed) (before after : List ℕ) : Type 0 where
  pub lent : List ℕ
  pub known : r.known ≡ true
  pub sends : Sends p s r.panel r.written (take n before) lent
  pub output : after ≡ lent ++ drop n before

-- a message that arrived writes nothing
pub record Hears (p : Panel) (message : List ℕ) (r : Obeyed) (before after : List ℕ) : Type 0 where
  pub known : r.known ≡ true
  pub takes : Takes p message r.panel r.written.refusal
  pub bytes : r.written.bytes ≡ 0
  pub output : after ≡ before

-- what is no command changes nothing
abbrev pub passed_over : Panel → Obeyed
passed_over p = record { panel = p; known = false; written = record { refusal = none; bytes = 0 } }

pub record PassesOver (p : Panel) (r : Obeyed) (before after : List ℕ) : Type 0 where
  pub answer : r ≡ passed_over p
  pub output : after ≡ before

-- THE CONTRACT of a command
abbrev pub Obeys : Panel → Command → Obeyed → List ℕ → List ℕ → Type 0
Obeys p (arrives message) r before after = Hears p message r before after
Obeys p (declares room settings) r before after = Lends (lent_of room (length before)) p (ready_sending p settings) r before after
Obeys p (touches room time records) r before after = Lends (lent_of room (length before)) p (touch_sending p time records) r before after
Obeys p (dismisses room id) r before after = Lends (lent_of room (length before)) p (dismiss_sending p id) r before after
Obeys p unknown r before after = PassesOver p r before after

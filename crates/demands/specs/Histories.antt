-- DEMAND 3, over calls of the receiver alone: "Take any history of messages to one receiver, refused ones among them. For each contact, the
-- records written are a legal path through the three states, starting out of range. After a cancel's own records nothing is written until an
-- opening frame. From any opening frame accepted while no contact is active, the records and the contact table are those of a rested receiver with
-- the same ready settings, given that frame and all that follows, as long as neither is refused for lack of room."
use Rattle.std.specs.Prelude.{ℕ, ◌*◌, ◌<◌, ◌≡◌, true, false, cond, List, [], ◌∷◌, ◌++◌, map, eqb, take}
use Rattle.paper.specs.Refusals.{none, no_room}
use Rattle.paper.specs.declared.Milliseconds.{Milliseconds}
use Rattle.digits.specs.Digits.{Bytes}
use Rattle.formats.specs.Format.{got}
use Rattle.states.specs.Table.{out}
use Rattle.house.specs.Fields.{record_bytes}
use Rattle.house.specs.declared.Contact.{Contact}
use Rattle.framing.specs.Frame.{Frame}
use Rattle.machine.specs.Table.{Table, contacts, state_at, place_at, origin}
use Rattle.machine.specs.Machine.{cancels}
use Rattle.contacts.specs.Touch.{touch_view}
use Rattle.stream.specs.Stream.{NoneActive}
use Rattle.stream.specs.Path.{at}
use Rattle.stream.specs.Asked.{All}
use Rattle.receiver.specs.Receive.{fresh, Receives}
use Rattle.channel.specs.Marks.{off}
use Rattle.receiver.specs.History.{Outcome, table_of, touch_in, frames_of, machine_at, bytes_at, opens_after, UnopenedAfter, CancelledAfter, Silent, SilentAs, rested, message_of, Cut, records_in, path}
use Rattle.receiver.specs.declared.Receiver.{Receiver}
use Rattle.receiver.specs.declared.Answer.{Answer}

-- ---- "any history of messages to one receiver, refused ones among them"

-- a call, by value or in place: its message, the output that it was lent, the receiver and the answer that it gave, and the output that it left
pub record Call : Type 0 where
  pub message : List ℕ
  pub before : List ℕ
  pub receiver : Receiver
  pub answer : Answer
  pub after : List ℕ

-- calls one after the other, the first of them with the receiver r: the contract allows each
unfoldable pub Calls : Receiver → List Call → Type 0
Calls r [] = Unit
Calls r (c ∷ cs) = Receives r c.message c.before c.receiver c.answer c.after × Calls c.receiver cs

-- a fresh receiver's calls, whose messages are lists of bytes
pub record History (h : List Call) : Type 0 where
  pub calls : Calls fresh h
  pub bytes : All (λ c. Bytes c.message) h

-- the receiver that they leave
unfoldable pub last : Receiver → List Call → Receiver
last r [] = r
last r (c ∷ cs) = last c.receiver cs

-- "The answer holds .. records written": what a call wrote is at the front of the output that it left
unfoldable pub records_left : Call → List ℕ
records_left c = take (record_bytes * c.answer.records) c.after

unfoldable pub all_left : List Call → List ℕ
all_left [] = []
all_left (c ∷ cs) = records_left c ++ all_left cs

-- ---- "A frame is accepted when its message is"

unfoldable pub accepted : Receiver → Call → List (Frame Contact)
accepted r c = cond (eqb c.answer.refusal none) (frames_of (touch_in r c.message)) []

-- no opening frame is accepted
unfoldable pub NoneOpens : Receiver → List Call → Type 0
NoneOpens r [] = Unit
NoneOpens r (c ∷ cs) = UnopenedAfter r [] (accepted r c) × NoneOpens c.receiver cs

-- ---- "For each contact, the records written are a legal path through the three states, starting out of range."

-- .. and it ends where the last receiver has the contact
abbrev pub LegalPath : List Call → ℕ → Type 0
LegalPath h id = let t : Table = table_of (last fresh h) in path id (records_in (all_left h)) out origin ≡ at (state_at t id) (place_at t id)

-- ---- "After a cancel's own records nothing is written until an opening frame."

-- the frames of the call c with the receiver r are fs, the cancelled f, gs of which none opens, and hs
pub record Cancel (r : Receiver) (c : Call) (fs : List (Frame Contact)) (f : Frame Contact) (gs hs : List (Frame Contact)) : Type 0 where
  pub frames : accepted r c ≡ fs ++ (f ∷ (gs ++ hs))
  pub cancelled : CancelledAfter r fs f
  pub others : UnopenedAfter r (fs ++ (f ∷ [])) gs

-- the records of the frames fs, and the cancel's own
abbrev pub up_to_cancel : Receiver → List (Frame Contact) → List ℕ
up_to_cancel r fs = bytes_at r fs ++ cancels touch_view (machine_at r fs).table

-- after such a call, whose hs are none, and further calls cs: nothing but these records; the receiver is silent; and the next call, with the frames
-- gs, of which none opens, and hs, writes what hs alone write to a receiver that is silent and has the same settings and the set as it is there
pub record Silenced (r : Receiver) (c : Call) (cs : List Call) (fs : List (Frame Contact)) : Type 0 where
  pub records : all_left (c ∷ cs) ≡ up_to_cancel r fs
  pub silent : Silent (last r (c ∷ cs))
  pub until : (d : Call) → Calls (last r (c ∷ cs)) (d ∷ []) → (gs hs : List (Frame Contact)) → accepted (last r (c ∷ cs)) d ≡ gs ++ hs → UnopenedAfter (last r (c ∷ cs)) [] gs
      → (q : Receiver) → SilentAs (last r (c ∷ cs)) gs q → records_left d ≡ bytes_at q hs

pub record NothingUntilAnOpeningFrame (r : Receiver) : Type 0 where
  -- in the cancel's own message: what follows is what hs write to a receiver that is silent and has the same settings and the set as it is there
  pub within : (c : Call) → Calls r (c ∷ []) → (fs : List (Frame Contact)) (f : Frame Contact) (gs hs : List (Frame Contact)) → Cancel r c fs f gs hs
      → (q : Receiver) → SilentAs r (fs ++ (f ∷ gs)) q → records_left c ≡ up_to_cancel r fs ++ bytes_at q hs
  -- in that message and in all calls after it, as long as no opening frame is accepted
  pub after : (c : Call) (cs : List Call) → Calls r (c ∷ cs) → (fs : List (Frame Contact)) (f : Frame Contact) (gs : List (Frame Contact)) → Cancel r c fs f gs []
      → NoneOpens c.receiver cs → Silenced r c cs fs

-- ---- "From any opening frame accepted while no contact is active, the records and the contact table are those of a rested receiver .."

-- "A rested receiver has accepted event 2, is past its first frame, is running, and has no active contact."
pub record AtRest (r : Receiver) : Type 0 where
  pub ready : off r.ready ≡ false
  pub begun : off r.begun ≡ false
  pub running : off r.ignoring ≡ true
  pub idle : NoneActive (table_of r)

-- ".. as long as neither is refused for lack of room"
abbrev pub HaveRoom : List Call → Type 0
HaveRoom cs = All (λ c. c.answer.refusal ≡ no_room → ⊥) cs

-- the receiver, the contact table in it, the answer and the records of a call
abbrev pub outcome_of : Call → Outcome
outcome_of c = record { receiver = c.receiver; answer = c.answer; bytes = records_left c }

-- two calls x and y, where x has the frames fs more at its front, and the calls after them
pub record SameFromThere (r : Receiver) (x y : Call) (fs : List (Frame Contact)) (more others : List Call) : Type 0 where
  pub receiver : x.receiver ≡ y.receiver
  pub records : records_left x ≡ bytes_at r fs ++ records_left y
  pub time : x.answer.time ≡ y.answer.time
  pub following : map outcome_of more ≡ map outcome_of others

pub record AsRestedFromAnOpeningFrame (r : Receiver) : Type 0 where
  -- the call x has the opening frame f after fs and before gs, and no contact is active before it; the rested receiver is given y, which begins
  -- with f; and then both are given the same messages
  pub same : (x y : Call) (more others : List Call) → Calls r (x ∷ more) → Calls (rested r.settings) (y ∷ others) → Bytes x.message
      → (fs : List (Frame Contact)) (f : Frame Contact) (gs : List (Frame Contact)) → Cut r x.message y.message fs f gs
      → opens_after r fs f ≡ true → NoneActive (machine_at r fs).table
      → map (λ (c : Call). c.message) more ≡ map (λ (c : Call). c.message) others → HaveRoom (x ∷ more) → HaveRoom (y ∷ others)
      → SameFromThere r x y fs more others
  -- there always is such a message for y
  pub given : (l : List ℕ) → Bytes l → (time : Milliseconds) (fs : List (Frame Contact)) (f : Frame Contact) (gs : List (Frame Contact))
      → touch_in r l ≡ got (record { time = time; frames = fs ++ (f ∷ gs) }) [] → Cut r l (message_of (record { time = time; frames = f ∷ gs })) fs f gs

-- ---- THE DEMAND

pub record EveryHistory : Type 0 where
  pub legal : (h : List Call) → History h → (id : ℕ) → id < contacts → LegalPath h id
  pub silent : (h : List Call) → History h → NothingUntilAnOpeningFrame (last fresh h)
  pub as_rested : (h : List Call) → History h → AsRestedFromAnOpeningFrame (last fresh h)
  -- and the rested receiver is the one that document 01 says
  pub rest : (h : List Call) → History h → AtRest (last fresh h) → last fresh h ≡ rested (last fresh h).settings

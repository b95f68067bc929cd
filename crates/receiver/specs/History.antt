-- Histories of one receiver, and the path of a contact through the records that they write.
use Rattle.std.specs.Prelude.{ℕ, ◌≡◌, Bool, false, cond, not, List, [], ◌∷◌, ◌++◌, map, eqb}
use Rattle.paper.specs.Refusals.{none, no_room, trailing}
use Rattle.paper.specs.declared.Milliseconds.{Milliseconds}
use Rattle.digits.specs.Digits.{Bytes}
use Rattle.slices.specs.Writing.{Draft, bytes, refuse, given}
use Rattle.formats.specs.Format.{Got, got, bad, and_then, whole, byte}
use Rattle.fields.specs.Integers.{taken}
use Rattle.states.specs.Table.{next as next_state}
use Rattle.house.specs.Layout.{record_of}
use Rattle.house.specs.Records as house
use Rattle.house.specs.declared.Point.{Point}
use Rattle.house.specs.declared.Contact.{Contact}
use Rattle.house.specs.declared.Record.{Record}
use Rattle.messages.specs.Header.{headed, touch, dismiss, write_message}
use Rattle.messages.specs.declared.Ready.{Ready}
use Rattle.framing.specs.Frame.{Frame}
use Rattle.touch.specs.Touch.{Touch, body}
use Rattle.touch.specs.Touch as format
use Rattle.machine.specs.Table.{Table}
use Rattle.machine.specs.Machine.{Machine}
use Rattle.receiver.specs.declared.Receiver.{Receiver}
use Rattle.receiver.specs.declared.Answer.{Answer}
use Rattle.receiver.specs.Receive.{machine_of, of_parts, resting_arrays, judged, takes, effect, draft_of, receiver_after, answer_after}
use Rattle.channel.specs.Marks.{off, untimed_by}
use Rattle.contacts.specs.Touch.{touch_view, touch_rules}
use Rattle.stream.specs.Stream.{Profile, Stream, opens}
use Rattle.stream.specs.Stream as stream
use Rattle.stream.specs.Set.{Happening, dismissing}
use Rattle.stream.specs.Path.{Seen, head, contact, refused, Path}
use Rattle.stream.specs.Path as paths

-- ---- "any history of messages to one receiver, refused ones among them"

-- a message, and the length of the output that it was lent
pub record Sent : Type 0 where
  pub message : List ℕ
  pub room : ℕ

-- messages are lists of bytes
abbrev pub OfBytes : List Sent → Type 0
OfBytes [] = Unit
OfBytes (x ∷ h) = Bytes x.message × OfBytes h

abbrev pub messages_of : List Sent → List (List ℕ)
messages_of h = map (λ (x : Sent). x.message) h

-- what one message leaves, answers and writes
unfoldable pub next : Receiver → Sent → Receiver
next r x = receiver_after r (effect r x.message) x.room

unfoldable pub answer_to : Receiver → Sent → Answer
answer_to r x = answer_after (effect r x.message) x.room

abbrev pub written_by : Draft → List ℕ
written_by (bytes s) = s
written_by (refuse e) = []

unfoldable pub wrote : Receiver → Sent → List ℕ
wrote r x = written_by (given x.room (draft_of (effect r x.message)))

-- what a history leaves and writes
unfoldable pub after : Receiver → List Sent → Receiver
after r [] = r
after r (x ∷ h) = after (next r x) h

unfoldable pub written : Receiver → List Sent → List ℕ
written r [] = []
written r (x ∷ h) = wrote r x ++ written (next r x) h

-- what each of its messages left, answered and wrote
pub record Outcome : Type 0 where
  pub receiver : Receiver
  pub answer : Answer
  pub bytes : List ℕ

unfoldable pub outcomes : Receiver → List Sent → List Outcome
outcomes r [] = []
outcomes r (x ∷ h) = record { receiver = next r x; answer = answer_to r x; bytes = wrote r x } ∷ outcomes (next r x) h

-- "as long as neither is refused for lack of room"
unfoldable pub Roomy : Receiver → List Sent → Type 0
Roomy r [] = Unit
Roomy r (x ∷ h) = ((answer_to r x).refusal ≡ no_room → ⊥) × Roomy (next r x) h

-- ---- "A frame is accepted when its message is"

abbrev pub table_of : Receiver → Table
table_of r = (machine_of r).table

-- a touch message, as the receiver reads it; no other message is one
unfoldable pub touch_in : Receiver → List ℕ → Got Touch
touch_in r l = and_then (headed (takes r) l) (λ e b. cond (eqb e touch) (body taken (judged r) b) (bad none))

abbrev pub frames_of : Got Touch → List (Frame Contact)
frames_of (got m t) = m.frames
frames_of (bad n) = []

unfoldable pub frames_taken : Receiver → Sent → List (Frame Contact)
frames_taken r x = cond (eqb (answer_to r x).refusal none) (frames_of (touch_in r x.message)) []

-- a dismissal, likewise: the id of the contact
unfoldable pub dismiss_in : Receiver → List ℕ → Got ℕ
dismiss_in r l = and_then (headed (takes r) l) (λ e b. cond (eqb e dismiss) (whole byte trailing b) (bad none))

-- .. and what happens by it
abbrev pub dismissal_of : Got ℕ → List (Happening Contact)
dismissal_of (got id t) = dismissing id ∷ []
dismissal_of (bad n) = []

-- ---- a receiver has one stream

-- what it goes by: what the machine sees of a touch contact, document 01's rules with maxTouchContacts, and ready flag 2
abbrev pub touch_profile : Profile Ready Contact
touch_profile = record { view = touch_view; rules = λ s. touch_rules s.most; untimed = λ s. untimed_by s.flags }

abbrev pub stream_of : Receiver → Stream Ready
stream_of r = record { settings = r.settings; machine = machine_of r; begun = not (off r.begun) }

-- the contacts and the mode after the first frames of a message, and what those write
abbrev pub machine_at : Receiver → List (Frame Contact) → Machine
machine_at r fs = stream.machine_at touch_profile (stream_of r) fs

abbrev pub bytes_at : Receiver → List (Frame Contact) → List ℕ
bytes_at r fs = stream.bytes_at touch_profile (stream_of r) fs

-- the frame f is opening, after the frames fs of its message
abbrev pub opens_after : Receiver → List (Frame Contact) → Frame Contact → Bool
opens_after r fs f = opens touch_view (machine_at r fs) f

-- none of the frames gs is, after fs and those of gs before it
abbrev pub UnopenedAfter : Receiver → List (Frame Contact) → List (Frame Contact) → Type 0
UnopenedAfter r fs gs = stream.UnopenedAfter touch_profile (stream_of r) fs gs

-- no opening frame is accepted
unfoldable pub Unopened : Receiver → List Sent → Type 0
Unopened r [] = Unit
Unopened r (x ∷ h) = UnopenedAfter r [] (frames_taken r x) × Unopened (next r x) h

-- the frame f is cancelled, after the frames fs of its message
abbrev pub CancelledAfter : Receiver → List (Frame Contact) → Frame Contact → Type 0
CancelledAfter r fs f = stream.CancelledAfter touch_profile (stream_of r) fs f

-- what a cancelled frame leaves: ignoring, every contact out of range
abbrev pub Silent : Receiver → Type 0
Silent r = stream.Silent (stream_of r)

-- the receiver q is silent, and has the settings of r and the set that the frames fs leave of it
abbrev pub SilentAs : Receiver → List (Frame Contact) → Receiver → Type 0
SilentAs r fs q = stream.SilentAs touch_profile (stream_of r) fs (stream_of q)

-- ---- the rested receiver

-- "A rested receiver has accepted event 2, is past its first frame, is running, and has no active contact."
unfoldable pub rested : Ready → Receiver
rested s = of_parts (record { ready = 1; begun = 1; ignoring = 0; settings = s }) resting_arrays

-- the bytes of a touch message
abbrev pub message_of : Touch → List ℕ
message_of m = write_message touch (format.touch taken false) m

-- "Where demand 3's opening frame is inside a message, the rested receiver gets a message of the same encodeTime that begins with that
-- frame": the message l has the frame f after fs and before gs, and the message k begins with it
pub record Cut (r : Receiver) (l k : List ℕ) (fs : List (Frame Contact)) (f : Frame Contact) (gs : List (Frame Contact)) : Type 0 where
  pub time : Milliseconds
  pub whole : touch_in r l ≡ got (record { time = time; frames = fs ++ (f ∷ gs) }) []
  pub part : touch_in (rested r.settings) k ≡ got (record { time = time; frames = f ∷ gs }) []

-- "records are compared from that frame on": the receiver r given x and `more` is, but for the frames before f, the rested one given y and
-- `others`
pub record AsRested (r : Receiver) (x y : Sent) (fs : List (Frame Contact)) (more others : List Sent) : Type 0 where
  pub receiver : next r x ≡ next (rested r.settings) y
  pub bytes : wrote r x ≡ bytes_at r fs ++ wrote (rested r.settings) y
  pub time : (answer_to r x).time ≡ (answer_to (rested r.settings) y).time
  pub outcomes : outcomes (next r x) more ≡ outcomes (next (rested r.settings) y) others
  pub written : written r (x ∷ more) ≡ bytes_at r fs ++ written (rested r.settings) (y ∷ others)

-- ---- "each contact's records are a legal path through the three states from out of range"

-- as many records as bytes hold; a last one that is not whole is read as refused
abbrev pub records_in : List ℕ → List Record
records_in l = house.records_in record_of l

-- what a path asks of a record
abbrev pub seen_in : Record → Seen
seen_in (Record.Head h) = head
seen_in (Record.Contact kind c) = contact kind c.flags c.id c.place
seen_in (Record.Refused e) = refused

-- the path of a contact through records, from a state and a position, by document 01's table
abbrev pub path : ℕ → List Record → ℕ → Point → Path
path id records s p = paths.path next_state seen_in id records s p

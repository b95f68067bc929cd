-- Document 02, #101, over calls of both ends alone: "Prove that its messages, delivered in order to a fresh receiver with room, are never refused
-- and never cancelled."
use Rattle.std.specs.Prelude.{ℕ, ◌≤◌, ◌<◌, ◌≡◌, Bool, true, cond, List, [], ◌∷◌, eqb, length, take}
use Rattle.paper.specs.Refusals.{none}
use Rattle.paper.specs.declared.Milliseconds.{Milliseconds}
use Rattle.digits.specs.Digits.{Bytes}
use Rattle.slices.specs.declared.Written.{Written}
use Rattle.formats.specs.Format.{Got, got, bad}
use Rattle.messages.specs.declared.Ready.{Ready}
use Rattle.house.specs.declared.Contact.{Contact}
use Rattle.framing.specs.Frame.{Frame, timed_frames, frames_bytes}
use Rattle.touch.specs.Touch.{touch_record}
use Rattle.recordings.specs.Records.{frames_in}
use Rattle.channel.specs.Marks.{untimed_by}
use Rattle.machine.specs.Machine.{arrays_in, dismiss_bytes}
use Rattle.contacts.specs.Touch.{touch_view}
use Rattle.panels.specs.Panel.{panel_table, panel_machine, fresh_panel, Takes, Sending, ready_sending, touch_sending, dismiss_sending, Sends}
use Rattle.panels.specs.declared.Panel.{Panel}
use Rattle.receiver.specs.Limits.{most_output}
use Rattle.receiver.specs.Receive.{of_parts, fresh}
use Rattle.receiver.specs.declared.Receiver.{Receiver}
use Rattle.demands.specs.Histories.{Calls, records_left}
use Rattle.demands.specs.Histories as host

-- ---- a panel's calls, by value or in place

-- what a call is asked to send
pub data Asked : Type 0 where
  ready : Ready → Asked
  touch : Milliseconds → List ℕ → Asked
  dismissal : ℕ → Asked

abbrev pub sending_of : Panel → Asked → Sending
sending_of p (ready s) = ready_sending p s
sending_of p (touch time records) = touch_sending p time records
sending_of p (dismissal id) = dismiss_sending p id

-- what a call is given fits its types: maxTouchContacts has 16 bits, and records and an id are bytes
abbrev pub Typed : Asked → Type 0
Typed (ready s) = s.most < 65536
Typed (touch time records) = Bytes records
Typed (dismissal id) = id < 256

-- a message that arrived, the panel after it and its refusal; or what was to be sent, the output that was lent, the panel and the answer, and the
-- output that was left
pub data PanelCall : Type 0 where
  arrived : List ℕ → Panel → ℕ → PanelCall
  sent : Asked → List ℕ → Panel → Written → List ℕ → PanelCall

-- calls one after the other, refused ones among them, the first of them with the panel p: the contract allows each
unfoldable pub PanelCalls : Panel → List PanelCall → Type 0
PanelCalls p [] = Unit
PanelCalls p (arrived l q e ∷ cs) = Takes p l q e × PanelCalls q cs
PanelCalls p (sent a before q w after ∷ cs) = (Typed a × Sends p (sending_of p a) q w before after) × PanelCalls q cs

-- ---- "its messages, delivered in order to a fresh receiver with room"

-- whether a call wrote a message
abbrev pub wrote : Written → Bool
wrote w = eqb w.refusal none

-- the next of the receiver's calls is lent this message, and room for what any message writes; `others` says the same of the calls after it
abbrev pub NextIs : List ℕ → (List host.Call → Type 0) → List host.Call → Type 0
NextIs message others [] = ⊥
NextIs message others (d ∷ ds) = (d.message ≡ message) × (most_output ≤ length d.before) × others ds

-- the messages that were written, in order, are those of the receiver's calls
unfoldable pub Delivers : List PanelCall → List host.Call → Type 0
Delivers [] ds = ds ≡ []
Delivers (arrived l q e ∷ cs) ds = Delivers cs ds
Delivers (sent a before q w after ∷ cs) ds = cond (wrote w) (NextIs (take w.bytes after) (λ es. Delivers cs es) ds) (Delivers cs ds)

-- ---- what the receiver makes of them

-- the receiver that has what a panel has: "its table, settings, ready mark and first-frame mark are the panel's", and it is running
abbrev pub mirror : Panel → Receiver
mirror p = of_parts (record { ready = p.ready; begun = p.begun; ignoring = 0; settings = p.settings }) (arrays_in (panel_machine p))

abbrev pub frames_of : Got (List (Frame Contact)) → List (Frame Contact)
frames_of (got fs t) = fs
frames_of (bad e) = []

-- how many frames the panel p was given, and the records of them: "those that the panel was given (offsets 0 with ready flag 2), and for a dismissal its
-- kind 3"
abbrev pub frames_given : Asked → ℕ
frames_given (ready s) = 0
frames_given (touch time records) = length (frames_of (frames_in records))
frames_given (dismissal id) = 0

abbrev pub records_given : Panel → Asked → List ℕ
records_given p (ready s) = []
records_given p (touch time records) = cond (untimed_by p.settings.flags) (frames_bytes touch_record (timed_frames true (frames_of (frames_in records)))) records
records_given p (dismissal id) = dismiss_bytes touch_view (panel_table p) id

-- a message that the panel p was asked for and that left the panel q, at the receiver
pub record Delivered (p : Panel) (a : Asked) (q : Panel) (d : host.Call) : Type 0 where
  pub accepted : d.answer.refusal ≡ none
  pub injected : d.answer.injected ≡ frames_given a
  pub ignored : d.answer.ignored ≡ 0
  pub cancelled : d.answer.cancelled ≡ 0
  pub receiver : d.receiver ≡ mirror q
  pub records : records_left d ≡ records_given p a

-- .. and `others` of the calls after it
abbrev pub NextBecame : Panel → Asked → Panel → (List host.Call → Type 0) → List host.Call → Type 0
NextBecame p a q others [] = ⊥
NextBecame p a q others (d ∷ ds) = Delivered p a q d × others ds

-- each message that was written
unfoldable pub AllDelivered : Panel → List PanelCall → List host.Call → Type 0
AllDelivered p [] ds = Unit
AllDelivered p (arrived l q e ∷ cs) ds = AllDelivered q cs ds
AllDelivered p (sent a before q w after ∷ cs) ds = cond (wrote w) (NextBecame p a q (λ es. AllDelivered q cs es) ds) (AllDelivered q cs ds)

-- THE PROMISE of the panel's sending side
abbrev pub NothingRefusedNothingCancelled : Type 0
NothingRefusedNothingCancelled =
    (cs : List PanelCall) → PanelCalls fresh_panel cs → (ds : List host.Call) → Calls fresh ds → Delivers cs ds → AllDelivered fresh_panel cs ds

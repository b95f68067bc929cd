-- The receiver of document 01: what becomes of it, what it answers and what it writes, of any message lent any room.
use Rattle.std.specs.Prelude.{ℕ, ◌/◌, ◌≡◌, Bool, cond, not, List, [], ◌∷◌, eqb, leb, length}
use Rattle.paper.specs.Refusals.{none, no_room, trailing}
use Rattle.paper.specs.declared.Milliseconds.{Milliseconds}
use Rattle.slices.specs.Writing.{Draft, bytes, refuse, given, left}
use Rattle.formats.specs.Format.{Got, got, bad, and_then, whole, byte}
use Rattle.fields.specs.Integers.{taken}
use Rattle.house.specs.Fields.{record_bytes}
use Rattle.messages.specs.Header.{headed, client_ready, touch, dismiss}
use Rattle.messages.specs.Bodies.{ready}
use Rattle.messages.specs.declared.Ready.{Ready}
use Rattle.house.specs.declared.Contact.{Contact}
use Rattle.framing.specs.Frame.{Frame, timed_frames, begun_by}
use Rattle.channel.specs.Marks.{off, mark, untimed_by, judged_by}
use Rattle.touch.specs.Touch.{Touch, body}
use Rattle.machine.specs.Rules.{Rules}
use Rattle.machine.specs.Table.{resting}
use Rattle.machine.specs.Machine.{Machine, Arrays, arrays_in, in_mode, running_with, run_machine, run_bytes, run_counts, dismiss_arrays, dismiss_bytes, Counts}
use Rattle.machine.specs.Machine as machine
use Rattle.receiver.specs.declared.Receiver.{Receiver}
use Rattle.receiver.specs.declared.Marks.{Marks}
use Rattle.receiver.specs.declared.Answer.{Answer}
use Rattle.contacts.specs.Touch.{touch_view, touch_rules}

-- ---- a receiver's parts

abbrev pub rules_of : Receiver → Rules Contact
rules_of r = touch_rules r.settings.most

abbrev pub arrays_of : Receiver → Arrays
arrays_of r = record { table = record { states = r.states; xs = r.xs; ys = r.ys }; held = r.held }

abbrev pub machine_of : Receiver → Machine
machine_of r = in_mode (off r.ignoring) (arrays_of r)

-- what a receiver has beside its arrays, by value
abbrev pub marks_of : Receiver → Marks
marks_of r = record { ready = r.ready; begun = r.begun; ignoring = r.ignoring; settings = r.settings }

-- a receiver as its parts: the marks, and the contacts and the set where they stand
abbrev pub of_parts : Marks → Arrays → Receiver
of_parts m a =
    record {
      ready = m.ready;
      begun = m.begun;
      ignoring = m.ignoring;
      settings = m.settings;
      states = a.table.states;
      xs = a.table.xs;
      ys = a.table.ys;
      held = a.held;
    }

-- every contact out of range, and the set empty
abbrev pub resting_arrays : Arrays
resting_arrays = arrays_in (running_with resting)

abbrev pub no_settings : Ready
no_settings = record { flags = 0; version = 0; most = 0 }

-- "A fresh receiver is unready, running, before its first frame, with settings 0 and all contacts out of range."
unfoldable pub fresh : Receiver
fresh = of_parts (record { ready = 0; begun = 0; ignoring = 0; settings = no_settings }) resting_arrays

-- ---- what a message does, before its room is asked

pub record Effect : Type 0 where
  pub receiver : Receiver
  pub counts : Counts
  pub time : Milliseconds
  pub bytes : List ℕ

-- "For events 2 and 6 [the counts] and encodeTime are 0."
abbrev pub quiet : Receiver → List ℕ → Effect
quiet r s = record { receiver = r; counts = machine.none; time = record { 0 = 0 }; bytes = s }

-- client ready: the settings, which a receiver takes once
abbrev pub settled : Receiver → Ready → Effect
settled r s = quiet (of_parts (record { ready = 1; begun = r.begun; ignoring = r.ignoring; settings = s }) (arrays_of r)) []

-- "With ready flag 2 set, .. the receiver answers encodeTime 0 and writes offset 0 (000, 2.2.3.2)."
abbrev pub untimed : Receiver → Bool
untimed r = untimed_by r.settings.flags

abbrev pub time_by : Bool → Milliseconds → Milliseconds
time_by unstamped t = cond unstamped (record { 0 = 0 }) t

-- whether 11 is judged on a message's first frame
abbrev pub judged : Receiver → Bool
judged r = judged_by r.settings.flags r.begun

unfoldable pub touched : Receiver → Touch → Effect
touched r m =
    let fs : List (Frame Contact) = timed_frames (untimed r) m.frames in
    let a : Machine = run_machine touch_view (rules_of r) (machine_of r) fs in
    record {
      receiver =
          of_parts
          (record { ready = r.ready; begun = begun_by 1 r.begun (length m.frames); ignoring = mark (not a.running); settings = r.settings })
          (arrays_in a);
      counts = run_counts touch_view (rules_of r) (machine_of r) fs;
      time = time_by (untimed r) m.time;
      bytes = run_bytes touch_view (rules_of r) (machine_of r) fs;
    }

abbrev pub dismissed_by : Receiver → ℕ → Effect
dismissed_by r id = quiet (of_parts (marks_of r) (dismiss_arrays (arrays_of r) id)) (dismiss_bytes touch_view (machine_of r).table id)

-- "The receiver takes event 2 until it accepts one, then only 3 and 6."
abbrev pub takes : Receiver → List ℕ
takes r = cond (off r.ready) (client_ready ∷ []) (touch ∷ dismiss ∷ [])

-- where the body of a touch message is read so
abbrev pub body_effect_by : (Bool → List ℕ → Got Touch) → Receiver → ℕ → List ℕ → Got Effect
body_effect_by read r e b =
    cond (eqb e client_ready) (and_then (whole ready trailing b) (λ s t. got (settled r s) t))
    (cond (eqb e touch) (and_then (read (judged r) b) (λ m t. got (touched r m) t))
    (and_then (whole byte trailing b) (λ id t. got (dismissed_by r id) t)))

abbrev pub body_effect : Receiver → ℕ → List ℕ → Got Effect
body_effect = body_effect_by (body taken)

abbrev pub effect_by : (Bool → List ℕ → Got Touch) → Receiver → List ℕ → Got Effect
effect_by read r l = and_then (headed (takes r) l) (body_effect_by read r)

unfoldable pub effect : Receiver → List ℕ → Got Effect
effect r l = effect_by (body taken) r l

-- ---- what is answered and left

abbrev pub draft_of : Got Effect → Draft
draft_of (got e t) = bytes e.bytes
draft_of (bad n) = refuse n

-- "A refusal answers its number with all other fields 0"
abbrev pub refusal : ℕ → Answer
refusal n = record { refusal = n; injected = 0; ignored = 0; cancelled = 0; time = record { 0 = 0 }; records = 0 }

abbrev pub answer_of : Effect → Answer
answer_of e =
    record {
      refusal = none;
      injected = e.counts.injected;
      ignored = e.counts.ignored;
      cancelled = e.counts.cancelled;
      time = e.time;
      records = length e.bytes / record_bytes;
    }

-- the receiver and the answer: 13 where the output is shorter than what the call writes
unfoldable pub receiver_after : Receiver → Got Effect → ℕ → Receiver
receiver_after r (got e t) room = cond (leb (length e.bytes) room) e.receiver r
receiver_after r (bad n) room = r

unfoldable pub answer_after : Got Effect → ℕ → Answer
answer_after (got e t) room = cond (leb (length e.bytes) room) (answer_of e) (refusal no_room)
answer_after (bad n) room = refusal n

-- THE CONTRACT of the step
pub record Receives (r : Receiver) (message before : List ℕ) (receiver : Receiver) (answer : Answer) (after : List ℕ) : Type 0 where
  pub kept : receiver ≡ receiver_after r (effect r message) (length before)
  pub answered : answer ≡ answer_after (effect r message) (length before)
  pub output : after ≡ left before (given (length before) (draft_of (effect r message)))

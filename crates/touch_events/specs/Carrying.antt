-- What carrying out the frames of a touch message comes to.
use Rattle.std.specs.Prelude.{ℕ, ◌+◌, ◌*◌, ◌/◌, ◌≤◌, ◌≡◌, Bool, false, List, leb, length}
use Rattle.paper.specs.Refusals.{none}
use Rattle.paper.specs.declared.Milliseconds.{Milliseconds}
use Rattle.slices.specs.Writing.{laid}
use Rattle.formats.specs.Format.{got, read_series}
use Rattle.fields.specs.Integers.{taken}
use Rattle.house.specs.Fields.{record_bytes}
use Rattle.house.specs.declared.Contact.{Contact}
use Rattle.framing.specs.Frame.{Frame, timed_frames}
use Rattle.framing.specs.Format.{body_head_of}
use Rattle.framing.specs.declared.BodyHead.{BodyHead}
use Rattle.touch.specs.Touch.{Touch, frame}
use Rattle.machine.specs.Table.{contacts}
use Rattle.machine.specs.Machine.{run_bytes}
use Rattle.contacts.specs.Touch.{touch_view}
use Rattle.runs.specs.Runs.{most_records}
use Rattle.runs.specs.declared.Run.{Run}
use Rattle.receiver.specs.declared.Receiver.{Receiver}
use Rattle.receiver.specs.declared.Answer.{Answer}
use Rattle.receiver.specs.declared.Received.{Received}
use Rattle.receiver.specs.Receive.{Effect, rules_of, machine_of, touched, answer_of, untimed}
use Rattle.receiver.specs.Events.{Gives}

-- the answer of a run
abbrev pub answer_of_run : Run → Milliseconds → Answer
answer_of_run run time = record { refusal = none; injected = run.injected; ignored = run.ignored; cancelled = run.cancelled; time = time; records = run.records }

-- the n frames at the front of l, run dry: how many records they give
pub record Tallies (r : Receiver) (n : ℕ) (l : List ℕ) (records : ℕ) (before after : List ℕ) : Type 0 where
  pub small : records ≤ most_records
  pub count : (fs : List (Frame Contact)) (rest : List ℕ) → read_series (λ b. (frame taken b).read) false n l ≡ got fs rest
      → record_bytes * records ≡ length (run_bytes touch_view (rules_of r) (machine_of r) (timed_frames (untimed r) fs))
  pub kept : (fs : List (Frame Contact)) (rest : List ℕ) → read_series (λ b. (frame taken b).read) false n l ≡ got fs rest → after ≡ before

-- an output of so many bytes has room for whatever a body of so many gives: a record for every two of them, and a cancel for each contact
abbrev pub ample : ℕ → ℕ → Bool
ample bodyBytes room = leb (bodyBytes / 2 + contacts) (room / record_bytes)

-- an effect, carried out
pub record Carried (e : Effect) (before : List ℕ) (q : Received) (after : List ℕ) : Type 0 where
  pub answer : q ≡ record { receiver = e.receiver; answer = answer_of e }
  pub output : after ≡ laid before e.bytes

-- the frames of a head at the front of l, carried out where there is room
pub record Carries (r : Receiver) (h : BodyHead) (l before : List ℕ) (q : Received) (after : List ℕ) : Type 0 where
  pub whole : length r.states ≡ contacts
  pub carried : (m : Touch) (rest : List ℕ) → h ≡ body_head_of m → read_series (λ b. (frame taken b).read) false h.frames l ≡ got m.frames rest
      → length (touched r m).bytes ≤ length before → Carried (touched r m) before q after

-- .. or refused where there is not
abbrev pub Settles : Receiver → BodyHead → List ℕ → List ℕ → Received → List ℕ → Type 0
Settles r h l before q after =
    (m : Touch) (rest : List ℕ) → h ≡ body_head_of m → read_series (λ b. (frame taken b).read) false h.frames l ≡ got m.frames rest
    → Gives r (got (touched r m) rest) before q after

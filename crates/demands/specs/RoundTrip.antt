-- DEMAND 2, over the calls: "Messages are read and judged as [MS-RDPEI] says, with document 01's rules where it is silent. Given room, a touch
-- message that the plain reading accepts is written back .. from its records and its encode time, and both are read back the same when the writer
-- accepts them." #104: "In place of demand 2's same bytes, reading and then writing yields the shortest message of the same meaning; doing that twice
-- changes nothing more."
use Rattle.std.specs.Prelude.{ℕ, ◌*◌, ◌/◌, ◌^◌, ◌≤◌, ◌<◌, ◌≡◌, Bool, List, length, take, Result, Ok}
use Rattle.paper.specs.Refusals.{none, no_room, not_shortest}
use Rattle.paper.specs.declared.Refusal.{Refusal}
use Rattle.paper.specs.declared.Milliseconds.{Milliseconds}
use Rattle.digits.specs.Digits.{Bytes}
use Rattle.slices.specs.Writing.{laid, Draft, Writes}
use Rattle.slices.specs.declared.Written.{Written}
use Rattle.formats.specs.Format.{Got, got, bad, byte}
use Rattle.formats.specs.Answer.{whole_of}
use Rattle.house.specs.Fields.{record_bytes}
use Rattle.messages.specs.Header.{read_message, server_ready, client_ready, suspend, resume, dismiss}
use Rattle.messages.specs.Bodies.{version, ready, nothing, server_ready_draft, client_ready_draft, suspend_draft, resume_draft, dismiss_draft}
use Rattle.messages.specs.declared.Ready.{Ready}
use Rattle.framing.specs.Frame.{frames_bytes}
use Rattle.touch.specs.Touch.{Touch, touch_record}
use Rattle.reading.specs.Plain.{read_by, ReadsBy, ReadsPlainly, ReadsStrictly}
use Rattle.reading.specs.Plain as plain
use Rattle.reading.specs.declared.PlainAnswer.{PlainAnswer}
use Rattle.writing.specs.TouchDraft.{touch_draft}

-- ---- outcomes of a call that was lent `before` and left `after`

-- a writer wrote the bytes s: the output begins with them, and the rest of it is as it was
pub record Wrote (s : List ℕ) (w : Written) (before after : List ℕ) : Type 0 where
  pub answer : w ≡ record { refusal = none; bytes = length s }
  pub output : after ≡ laid before s

-- a reading wrote these records, and answered this time
pub record Read (time : Milliseconds) (records : List ℕ) (a : PlainAnswer) (before after : List ℕ) : Type 0 where
  pub answer : a ≡ record { refusal = none; time = time; records = length records / record_bytes }
  pub output : after ≡ laid before records

-- it refused, and left the output as it was
pub record Refused (number : ℕ) (a : PlainAnswer) (before after : List ℕ) : Type 0 where
  pub answer : a ≡ plain.refusal number
  pub output : after ≡ before

-- the records that a reading left in its output
abbrev pub records_read : PlainAnswer → List ℕ → List ℕ
records_read a after = take (record_bytes * a.records) after

-- ---- "Messages are read and judged as [MS-RDPEI] says, with document 01's rules where it is silent": what a reading answers and writes is what a
-- message says by `read_by`, or the number by which that refuses it

pub record Judged (strictly : Bool) (message : List ℕ) (a : PlainAnswer) (before after : List ℕ) : Type 0 where
  pub accepts : (m : Touch) (t : List ℕ) → read_by strictly message ≡ got m t → length (frames_bytes touch_record m.frames) ≤ length before
      → Read m.time (frames_bytes touch_record m.frames) a before after
  pub lacks_room : (m : Touch) (t : List ℕ) → read_by strictly message ≡ got m t → length before < length (frames_bytes touch_record m.frames)
      → Refused no_room a before after
  pub refuses : (number : ℕ) → read_by strictly message ≡ bad number → Refused number a before after

-- ---- #104: "reading and then writing yields the shortest message of the same meaning"

-- s is the shortest message that means this time and these records
pub record Shortest (time : Milliseconds) (records s : List ℕ) : Type 0 where
  -- given room, both readings read it so
  pub plainly : (a : PlainAnswer) (before after : List ℕ) → ReadsPlainly s a before after → length records ≤ length before → Read time records a before after
  pub strictly : (a : PlainAnswer) (before after : List ℕ) → ReadsStrictly s a before after → length records ≤ length before → Read time records a before after
  -- none that is read so is shorter
  pub least : (other : List ℕ) (a : PlainAnswer) (before after : List ℕ) → Bytes other → ReadsPlainly other a before after → Read time records a before after
      → length s ≤ length other

-- what a reading left was written back as such a message
pub record WrittenBack (a : PlainAnswer) (after : List ℕ) (w : Written) (out₀ out₁ : List ℕ) : Type 0 where
  pub message : List ℕ
  pub wrote : Wrote message w out₀ out₁
  pub shortest : Shortest a.time (records_read a after) message

-- ---- the five small messages: of a writer of values, and a reader of what a message says by `read`

-- values Fit their types
pub record Trip {Value : Type 0} (draft : Value → Draft) (Fit : Value → Type 0) (read : List ℕ → Got Value) : Type 0 where
  -- what was written is read back the same
  pub back : (v : Value) (w : Written) (before after : List ℕ) (r : Result Value Refusal) → Fit v → Writes (draft v) w before after → w.refusal ≡ none
      → whole_of r ≡ read (take w.bytes after) → r ≡ Ok v
  -- what was accepted is written back to the same bytes, given room
  pub exact : (message : List ℕ) (v : Value) (w : Written) (before after : List ℕ) → Bytes message → whole_of (Ok v) ≡ read message
      → Writes (draft v) w before after → length message ≤ length before → Wrote message w before after

-- THE DEMAND
pub record ReadAndWrittenBack : Type 0 where
  pub judged : (strictly : Bool) (message : List ℕ) (a : PlainAnswer) (before after : List ℕ) → ReadsBy strictly message a before after → Judged strictly message a before after
  -- "Given room, a touch message that the plain reading accepts is written back .. from its records and its encode time": those that it left in its
  -- output; #104: "In place of demand 2's same bytes, reading and then writing yields the shortest message of the same meaning"
  pub written_back : (message : List ℕ) (a : PlainAnswer) (before after : List ℕ) (w : Written) (out₀ out₁ : List ℕ) → Bytes message
      → ReadsPlainly message a before after → a.refusal ≡ none
      → Writes (touch_draft a.time (records_read a after)) w out₀ out₁ → length message ≤ length out₀
      → WrittenBack a after w out₀ out₁
  -- "doing that twice changes nothing more": what was written, read and written again
  pub twice : (message : List ℕ) (a : PlainAnswer) (before after : List ℕ) (w : Written) (out₀ out₁ : List ℕ) → Bytes message
      → ReadsPlainly message a before after → a.refusal ≡ none
      → Writes (touch_draft a.time (records_read a after)) w out₀ out₁ → length message ≤ length out₀
      → (b : PlainAnswer) (before' after' : List ℕ) (v : Written) (out₂ out₃ : List ℕ)
      → ReadsPlainly (take w.bytes out₁) b before' after' → b.refusal ≡ none
      → Writes (touch_draft b.time (records_read b after')) v out₂ out₃ → length message ≤ length out₂
      → Wrote (take w.bytes out₁) v out₂ out₃
  -- what the strict reading accepts is written back to the same bytes
  pub same_bytes : (message : List ℕ) (a : PlainAnswer) (before after : List ℕ) (w : Written) (out₀ out₁ : List ℕ) → Bytes message
      → ReadsStrictly message a before after → a.refusal ≡ none
      → Writes (touch_draft a.time (records_read a after)) w out₀ out₁ → length message ≤ length out₀
      → Wrote message w out₀ out₁
  -- where the strict reading answers anything but 6, the plain reading answers and leaves the same
  pub agreement : (message : List ℕ) (a b : PlainAnswer) (before after after' : List ℕ) → ReadsStrictly message a before after → ReadsPlainly message b before after'
      → (a.refusal ≡ not_shortest → ⊥) → (b ≡ a) × (after' ≡ after)
  -- "and both are read back the same when the writer accepts them"
  pub read_back : (strictly : Bool) (time : Milliseconds) (records : List ℕ) (w : Written) (before after : List ℕ) (a : PlainAnswer) (out₀ out₁ : List ℕ) → Bytes records
      → Writes (touch_draft time records) w before after → w.refusal ≡ none
      → ReadsBy strictly (take w.bytes after) a out₀ out₁ → length records ≤ length out₀
      → Read time records a out₀ out₁
  -- and so the other messages, of values that their types hold: u32, u16 and u8
  pub server_readies : Trip server_ready_draft (λ v. v < 2 ^ 32) (read_message server_ready version)
  pub client_readies : Trip client_ready_draft (λ (s : Ready). (s.flags < 2 ^ 32) × (s.version < 2 ^ 32) × (s.most < 2 ^ 16)) (read_message client_ready ready)
  pub suspends : Trip (λ (u : Unit {0}). suspend_draft) (λ u. Unit {0}) (read_message suspend nothing)
  pub resumes : Trip (λ (u : Unit {0}). resume_draft) (λ u. Unit {0}) (read_message resume nothing)
  pub dismissals : Trip dismiss_draft (λ id. id < 2 ^ 8) (read_message dismiss byte)

-- DEMAND 2 holds: the touch writer undoes the strict reading and shortens what the plain reading takes, and the readers and writers of the other messages
-- undo each other.
-- Assumes nothing.
use Prim.Native.Nat.{ℕ, zero, suc, ◌*◌, ◌/◌, ◌≤◌}
use mathlib.Core.Path.{◌≡◌, refl, sym, ap, ◌∙◌}
use mathlib.Core.Bool.{Bool, true, false, cond}
use mathlib.Core.List.{List, []}
use native.Mathlib.Omega.{arith}
use lib.Dec.{leb}
use lib.ListN.{length, take, drop}
use lib.Seq.{take_at}
use borrow.Author.Tests.{leb-true, leb-false}
use Rattle.paper.specs.Refusals.{none, no_room, not_shortest, bad_count, too_long, bad_field}
use Rattle.paper.specs.Refusals.{number}
use Rattle.paper.specs.declared.Refusal.{Refusal}
use Rattle.paper.specs.declared.Milliseconds.{Milliseconds}
use Rattle.std.specs.Prelude.{Result, Ok, Err}
use Rattle.digits.specs.Digits.{Bytes}
use Rattle.slices.specs.Writing.{Draft, bytes, refuse, given, answered, left, Writes}
use Rattle.slices.specs.declared.Written.{Written}
use Rattle.slices.proofs.Laws.{given-room, given-none, given-refuse, writes-done}
use Rattle.formats.specs.Format.{Got, got, bad, Format, byte}
use Rattle.formats.specs.Answer.{whole_of}
use Rattle.formats.proofs.Laws.{never}
use Rattle.house.specs.Fields.{record_bytes}
use Rattle.house.specs.declared.Contact.{Contact}
use Rattle.messages.specs.Header.{one_of, read_message, server_ready, client_ready, suspend, resume, dismiss, most_bytes}
use Rattle.messages.specs.Bodies.{version, ready, nothing, version_listed, flags_listed, server_ready_draft, client_ready_draft, suspend_draft, resume_draft, dismiss_draft}
use Rattle.messages.specs.declared.Ready.{Ready}
use Rattle.message_writers.proofs.RoundTrip.{RoundTrip, round-trips}
use Rattle.framing.specs.Frame.{Frame, frames_bytes}
use Rattle.frame_records.proofs.Laws.{length-frames}
use Rattle.touch.specs.Limits.{most_frames}
use Rattle.touch.specs.Touch.{Touch, touch_record}
use Rattle.reading.specs.Plain.{read_by, plainly, read_strictly, draft_of, time_of, ReadsBy, ReadsPlainly, ReadsStrictly}
use Rattle.reading.proofs.Agreeing.{readings-agree}
use Rattle.reading.specs.Plain as plain
use Rattle.reading.specs.declared.PlainAnswer.{PlainAnswer}
use Rattle.writing.specs.TouchDraft.{message_of, frames_draft, checked_frames, touch_draft, draft_of as touch_draft_of}
use Rattle.writing.proofs.Checked.{checked-tame}
use Rattle.writing.proofs.RoundTrip.{accepted-is-written-back, accepted-is-written-back-no-longer, accepted-is-read-again, strictly-accepted-is-written-back-to-the-same-bytes, written-is-read-back-to-the-same-records-and-time}
use Rattle.formats.proofs.Agreeing.{Agree, refuses, same}
use Rattle.formats.proofs.Refusing.{Tame}
use Rattle.receiver.proofs.Refusing.{Listed, message-tame}
use Rattle.demands.specs.RoundTrip.{Wrote, Read, Refused, records_read, Judged, WrittenBack, Trip, ReadAndWrittenBack}

-- ---- a reading, by what it reads

module _ (strictly : Bool) (message : List ℕ) (a : PlainAnswer) (before after : List ℕ) (h : ReadsBy strictly message a before after) where
  -- what it reads and the draft that room leaves of it say what it answers and what is left
  read_as : (x : Got Touch) (d : Draft) → read_by strictly message ≡ x → given (length before) (draft_of x) ≡ d → (a ≡ plain.answered (time_of x) d) × (after ≡ left before d)
  read_as x d e g =
      (h.answer ∙ (λ i. plain.answered (time_of (e i)) (given (length before) (draft_of (e i)))) ∙ ap (plain.answered (time_of x)) g, h.output ∙ (λ i. left before (given (length before) (draft_of (e i)))) ∙ ap (left before) g)

  pub judged : Judged strictly message a before after
  judged =
      record {
        accepts = λ m t e room.
            let s = frames_bytes touch_record m.frames in
            let r = read_as (got m t) (bytes s) e (given-room s (length before) room) in
            record { answer = r.0; output = r.1 };
        lacks_room = λ m t e full.
            let s = frames_bytes touch_record m.frames in
            let r = read_as (got m t) (refuse no_room) e (given-none s (length before) full) in
            record { answer = r.0; output = r.1 };
        refuses = λ n e.
            let r = read_as (bad n) (refuse n) e (given-refuse n (length before)) in
            record { answer = r.0; output = r.1 };
      }

-- the records answered stand at the front of the output
pub read-front : (time : Milliseconds) (fs : List (Frame Contact)) (a : PlainAnswer) (before after : List ℕ) → Read time (frames_bytes touch_record fs) a before after
    → take (record_bytes * a.records) after ≡ frames_bytes touch_record fs
read-front time fs a before after h =
    let s = frames_bytes touch_record fs in
    let count : a.records ≡ length s / record_bytes = ap (λ (v : PlainAnswer). v.records) h.answer in
    let long : length s ≡ record_bytes * a.records = omega (arith, count, length-frames fs) in
    ap (take (record_bytes * a.records)) h.output ∙ take_at s (drop (length s) before) (record_bytes * a.records) long

-- no reader refuses by 0
not_none : (strictly : Bool) (n : ℕ) → Listed strictly false n → 1 ≤ n
unfolding one_of
not_none true zero h = absurd (let z : ◌≡◌ {A = ℕ} 0 1 = cc in omega arith)
not_none false zero h = absurd (let z : ◌≡◌ {A = ℕ} 0 1 = cc in omega arith)
not_none strictly (suc n) h = omega arith

-- what a reading accepted, it read and had room for
pub record Accepted (strictly : Bool) (message : List ℕ) (a : PlainAnswer) (before after : List ℕ) : Type 0 where
  pub content : Touch
  pub rest : List ℕ
  pub read : read_by strictly message ≡ got content rest
  pub outcome : Read content.time (frames_bytes touch_record content.frames) a before after

refused-so : {P : Type 0} (n : ℕ) (a : PlainAnswer) (before after : List ℕ) → Refused n a before after → 1 ≤ n → a.refusal ≡ none → P
refused-so n a before after h low z =
    let e : a.refusal ≡ n = ap (λ (v : PlainAnswer). v.refusal) h.answer in
    absurd (omega (arith, e, z, low))

pub accepted : (strictly : Bool) (message : List ℕ) (a : PlainAnswer) (before after : List ℕ) → ReadsBy strictly message a before after → a.refusal ≡ none → Accepted strictly message a before after
accepted strictly message a before after h z = go (read_by strictly message) refl (message-tame strictly false message)
  where
    go : (x : Got Touch) → read_by strictly message ≡ x → Tame (Listed strictly false) x → Accepted strictly message a before after
    go (bad n) e k = refused-so n a before after ((judged strictly message a before after h).refuses n e) (not_none strictly n k) z
    go (got m t) e k = by (leb (length (frames_bytes touch_record m.frames)) (length before)) refl
      where
        by : (b : Bool) → leb (length (frames_bytes touch_record m.frames)) (length before) ≡ b → Accepted strictly message a before after
        by true r = record { content = m; rest = t; read = e; outcome = (judged strictly message a before after h).accepts m t e (leb-true _ _ r) }
        by false r = refused-so no_room a before after ((judged strictly message a before after h).lacks_room m t e (leb-false _ _ r)) (omega arith) z

-- ---- a draft refuses by a number that is not 0, so what a writer accepts it wrote

abbrev Named : Draft → Type 0
Named (bytes s) = Unit {0}
Named (refuse n) = 1 ≤ n

record Whole (d : Draft) (w : Written) (before after : List ℕ) : Type 0 where
  drawn : List ℕ
  is : d ≡ bytes drawn
  front : take w.bytes after ≡ drawn

wrote-whole : (d : Draft) (w : Written) (before after : List ℕ) → Named d → Writes d w before after → w.refusal ≡ none → Whole d w before after
wrote-whole (refuse n) w before after k h z =
    let e : w.refusal ≡ n = ap (λ (v : Written). v.refusal) (h.answer ∙ ap answered (given-refuse n (length before))) in
    absurd (omega (arith, e, z, k))
wrote-whole (bytes s) w before after k h z = go (leb (length s) (length before)) refl
  where
    go : (b : Bool) → leb (length s) (length before) ≡ b → Whole (bytes s) w before after
    go true r =
        let d = writes-done s w before after h (leb-true _ _ r) in
        record { drawn = s; is = refl; front = ap (take w.bytes) d.output ∙ take_at s (drop (length s) before) w.bytes (sym d.count) }
    go false r =
        let e : w.refusal ≡ no_room = ap (λ (v : Written). v.refusal) (h.answer ∙ ap answered (given-none s (length before) (leb-false _ _ r))) in
        absurd (omega (arith, e, z))

wrote-room : (d : Draft) (s : List ℕ) (w : Written) (before after : List ℕ) → d ≡ bytes s → Writes d w before after → length s ≤ length before → Wrote s w before after
wrote-room d s w before after e h room =
    let k = writes-done s w before after (rw e at h) room in
    record { answer = k.answer; output = k.output }

written-front : (s : List ℕ) (w : Written) (before after : List ℕ) → Wrote s w before after → take w.bytes after ≡ s
written-front s w before after h =
    let n : w.bytes ≡ length s = ap (λ (v : Written). v.bytes) h.answer in
    ap (take w.bytes) h.output ∙ take_at s (drop (length s) before) w.bytes (sym n)

tested : (b : Bool) (d : Draft) (n : ℕ) → 1 ≤ n → Named d → Named (cond b d (refuse n))
tested true d n low h = h
tested false d n low h = low

-- ---- the touch writer's draft: a time that U4 does not hold is refused by 10, records that are no frames by 14

frames-named : (time : Milliseconds) (fs : List (Frame Contact)) → Named (frames_draft time fs)
unfolding frames_draft
frames-named time fs = tested (leb (length fs) most_frames) _ bad_count (omega arith) (tested (leb (length (message_of time fs)) most_bytes) _ too_long (omega arith) tt)

checked-named : (time : Milliseconds) (x : Got (List (Frame Contact))) → Tame (λ n. 1 ≤ n) x → Named (touch_draft_of time x)
checked-named time (got fs t) h = frames-named time fs
checked-named time (bad n) h = h

touch-named : (time : Milliseconds) (records : List ℕ) → Named (touch_draft time records)
unfolding touch_draft
touch-named time records = checked-named time (checked_frames time records) (checked-tame time records _ (omega arith) (omega arith))

-- ---- touch messages

-- what was accepted, and is written from the time and the records that the reading left
module _ (strictly : Bool) (message : List ℕ) (a : PlainAnswer) (before after : List ℕ) (x : Accepted strictly message a before after) where
  abbrev content : Touch
  content = x.content

  time-is : a.time ≡ content.time
  time-is = ap (λ (v : PlainAnswer). v.time) x.outcome.answer

  records-are : records_read a after ≡ frames_bytes touch_record content.frames
  records-are = read-front content.time content.frames a before after x.outcome

  drafted : (s : List ℕ) → touch_draft content.time (frames_bytes touch_record content.frames) ≡ bytes s → touch_draft a.time (records_read a after) ≡ bytes s
  drafted s e = (λ i. touch_draft (time-is i) (records-are i)) ∙ e

same_bytes_lem : (message : List ℕ) (a : PlainAnswer) (before after : List ℕ) (w : Written) (out₀ out₁ : List ℕ) → Bytes message → ReadsStrictly message a before after → a.refusal ≡ none
    → Writes (touch_draft a.time (records_read a after)) w out₀ out₁ → length message ≤ length out₀ → Wrote message w out₀ out₁
same_bytes_lem message a before after w out₀ out₁ hm h z k room =
    let x = accepted true message a before after h z in
    let d = drafted true message a before after x message (strictly-accepted-is-written-back-to-the-same-bytes message x.content x.rest hm x.read) in
    wrote-room (touch_draft a.time (records_read a after)) message w out₀ out₁ d k room

-- the message that a message is written back as
module _ (message : List ℕ) (a : PlainAnswer) (before after : List ℕ) (hm : Bytes message) (x : Accepted false message a before after) where
  abbrev shortened : List ℕ
  shortened = message_of x.content.time x.content.frames

  shortened-drafted : touch_draft a.time (records_read a after) ≡ bytes shortened
  shortened-drafted = drafted false message a before after x shortened (accepted-is-written-back message x.content x.rest hm x.read)

  shortened-longest : length shortened ≤ length message
  shortened-longest = accepted-is-written-back-no-longer message x.content x.rest hm x.read

  -- both readings, with room, read it as the message was read
  read_again : (strictly : Bool) (b : PlainAnswer) (before' after' : List ℕ) → ReadsBy strictly shortened b before' after' → length (records_read a after) ≤ length before'
      → Read a.time (records_read a after) b before' after'
  read_again strictly b before' after' h room =
      let m = x.content in
      let are = records-are false message a before after x in
      rw (time-is false message a before after x, are)
      ((judged strictly shortened b before' after' h).accepts m [] (accepted-is-read-again message m x.rest hm x.read strictly) (rw are at room))

  -- which stands at the front of the output that it was written to
  shortened-front : (w : Written) (out₀ out₁ : List ℕ) → Writes (touch_draft a.time (records_read a after)) w out₀ out₁ → length message ≤ length out₀ → take w.bytes out₁ ≡ shortened
  shortened-front w out₀ out₁ k room =
      written-front shortened w out₀ out₁ (wrote-room (touch_draft a.time (records_read a after)) shortened w out₀ out₁ shortened-drafted k (omega (arith, shortened-longest, room)))

-- of two readings with the same outcome, what was accepted is written back the same
same-content : (time : Milliseconds) (fs : List (Frame Contact)) (message : List ℕ) (a : PlainAnswer) (before after : List ℕ) (hm : Bytes message) (x : Accepted false message a before after)
    → Read time (frames_bytes touch_record fs) a before after → touch_draft time (frames_bytes touch_record fs) ≡ bytes (shortened message a before after hm x)
same-content time fs message a before after hm x h =
    let t : a.time ≡ time = ap (λ (v : PlainAnswer). v.time) h.answer in
    (λ i. touch_draft (sym t i) (sym (read-front time fs a before after h) i)) ∙ shortened-drafted message a before after hm x

drawn-alike : (d : Draft) (s t : List ℕ) → d ≡ bytes s → d ≡ bytes t → s ≡ t
drawn-alike d s t e f = let z : bytes s ≡ bytes t = sym e ∙ f in cc

written_back_lem : (message : List ℕ) (a : PlainAnswer) (before after : List ℕ) (w : Written) (out₀ out₁ : List ℕ) → Bytes message → ReadsPlainly message a before after → a.refusal ≡ none
    → Writes (touch_draft a.time (records_read a after)) w out₀ out₁ → length message ≤ length out₀ → WrittenBack a after w out₀ out₁
written_back_lem message a before after w out₀ out₁ hm h z k room =
    let x = accepted false message a before after h z in
    let s = shortened message a before after hm x in
    let d = shortened-drafted message a before after hm x in
    let are = records-are false message a before after x in
    record {
      message = s;
      wrote = wrote-room (touch_draft a.time (records_read a after)) s w out₀ out₁ d k (omega (arith, shortened-longest message a before after hm x, room));
      shortest =
          record {
            plainly = read_again message a before after hm x false;
            strictly = read_again message a before after hm x true;
            least = λ other b p q ho r e.
                let y = accepted false other b p q r (ap (λ (v : PlainAnswer). v.refusal) e.answer) in
                let same = same-content a.time x.content.frames other b p q ho y (rw are at e) in
                let alike = drawn-alike _ s (shortened other b p q ho y) d ((λ i. touch_draft a.time (are i)) ∙ same) in
                omega (arith, ap length alike, shortened-longest other b p q ho y);
          };
    }

twice : (message : List ℕ) (a : PlainAnswer) (before after : List ℕ) (w : Written) (out₀ out₁ : List ℕ) → Bytes message → ReadsPlainly message a before after → a.refusal ≡ none
    → Writes (touch_draft a.time (records_read a after)) w out₀ out₁ → length message ≤ length out₀
    → (b : PlainAnswer) (before' after' : List ℕ) (v : Written) (out₂ out₃ : List ℕ) → ReadsPlainly (take w.bytes out₁) b before' after' → b.refusal ≡ none
    → Writes (touch_draft b.time (records_read b after')) v out₂ out₃ → length message ≤ length out₂ → Wrote (take w.bytes out₁) v out₂ out₃
twice message a before after w out₀ out₁ hm h z k room b before' after' v out₂ out₃ j y l more =
    let x = accepted false message a before after h z in
    let m = x.content in
    let s = shortened message a before after hm x in
    let long = shortened-longest message a before after hm x in
    let front : take w.bytes out₁ ≡ s = shortened-front message a before after hm x w out₀ out₁ k room in
    let u = accepted false s b before' after' (rw front at j) y in
    let c : m ≡ u.content = let p = accepted-is-read-again message m x.rest hm x.read false in let q = u.read in cc in
    let e : touch_draft u.content.time (frames_bytes touch_record u.content.frames) ≡ bytes s =
    (λ n. touch_draft (sym c n).time (frames_bytes touch_record (sym c n).frames)) ∙ accepted-is-written-back message m x.rest hm x.read in
    rw front (wrote-room (touch_draft b.time (records_read b after')) s v out₂ out₃ (drafted false s b before' after' u s e) l (omega (arith, long, more)))

-- the message and what was written back are read the same
pub record ReadAlike (message other : List ℕ) : Type 0 where
  pub content : Touch
  pub rest : List ℕ
  pub one : plainly message ≡ got content rest
  pub two : plainly other ≡ got content []

pub written-alike : (message : List ℕ) (a : PlainAnswer) (before after : List ℕ) (w : Written) (out₀ out₁ : List ℕ) → Bytes message → ReadsPlainly message a before after → a.refusal ≡ none
    → Writes (touch_draft a.time (records_read a after)) w out₀ out₁ → length message ≤ length out₀ → ReadAlike message (take w.bytes out₁)
written-alike message a before after w out₀ out₁ hm h z k room =
    let x = accepted false message a before after h z in
    let again = accepted-is-read-again message x.content x.rest hm x.read false in
    record { content = x.content; rest = x.rest; one = x.read; two = ap plainly (shortened-front message a before after hm x w out₀ out₁ k room) ∙ again }

read_back_lem : (strictly : Bool) (time : Milliseconds) (records : List ℕ) (w : Written) (before after : List ℕ) (a : PlainAnswer) (out₀ out₁ : List ℕ) → Bytes records
    → Writes (touch_draft time records) w before after → w.refusal ≡ none
    → ReadsBy strictly (take w.bytes after) a out₀ out₁ → length records ≤ length out₀ → Read time records a out₀ out₁
read_back_lem strictly time records w before after a out₀ out₁ hr h z k room =
    let x = wrote-whole (touch_draft time records) w before after (touch-named time records) h z in
    let b = written-is-read-back-to-the-same-records-and-time strictly time records x.drawn hr x.is in
    let m = b.message in
    let e : read_by strictly (take w.bytes after) ≡ got m [] = ap (read_by strictly) x.front ∙ b.reads in
    let fits : length (frames_bytes touch_record m.frames) ≤ length out₀ = rw b.same-records room in
    rw (b.same-time, b.same-records) at ((judged strictly (take w.bytes after) a out₀ out₁ k).accepts m [] e fits)

-- ---- the two readings

agreement : (message : List ℕ) (a b : PlainAnswer) (before after after' : List ℕ) → ReadsStrictly message a before after → ReadsPlainly message b before after'
    → (a.refusal ≡ not_shortest → ⊥) → (b ≡ a) × (after' ≡ after)
agreement message a b before after after' h k u = go (readings-agree message)
  where
    go : Agree not_shortest (read_strictly message) (plainly message) → (b ≡ a) × (after' ≡ after)
    go (refuses e) = absurd (u (ap (λ (v : PlainAnswer). v.refusal) ((judged true message a before after h).refuses not_shortest e).answer))
    go (same e) =
        let r = read_as true message a before after h (plainly message) (given (length before) (draft_of (plainly message))) e refl in
        (k.answer ∙ sym r.0, k.output ∙ sym r.1)

-- ---- the other messages, from what their formats say

-- an answer that says a value is that value
meant : {A : Type 0} (r : Result A Refusal) (v : A) → whole_of r ≡ got v [] → r ≡ Ok v
meant (Ok a) v h = let z : a ≡ v = cc in ap Ok z
meant (Err e) v h = never (number e) v [] h

module _ {A : Type 0} (e : ℕ) (f : Format A) (draft : A → Draft) (Fit : A → Type 0) (laws : RoundTrip e f draft Fit) (named : (v : A) → Named (draft v)) where
  trip : Trip draft Fit (read_message e f)
  trip =
      record {
        back = λ v w before after r fit h z a.
            let x = wrote-whole (draft v) w before after (named v) h z in
            meant r v (a ∙ ap (read_message e f) x.front ∙ laws.back v x.drawn fit x.is);
        exact = λ l v w before after hl a h room.
            wrote-room (draft v) l w before after (laws.exact l v [] hl (sym a)).1 h room;
      }

server-named : (v : ℕ) → Named (server_ready_draft v)
unfolding server_ready_draft
server-named v = tested (version_listed v) _ bad_field (omega arith) tt

client-named : (r : Ready) → Named (client_ready_draft r)
unfolding client_ready_draft
client-named r = tested (flags_listed r.flags) _ bad_field (omega arith) (tested (version_listed r.version) _ bad_field (omega arith) tt)

suspend-named : Named suspend_draft
unfolding suspend_draft
suspend-named = tt

resume-named : Named resume_draft
unfolding resume_draft
resume-named = tt

dismiss-named : (id : ℕ) → Named (dismiss_draft id)
unfolding dismiss_draft
dismiss-named id = tt

pub read-and-written-back : ReadAndWrittenBack
read-and-written-back =
    record {
      judged = judged;
      written_back = written_back_lem;
      twice = twice;
      same_bytes = same_bytes_lem;
      agreement = agreement;
      read_back = read_back_lem;
      server_readies = trip server_ready version server_ready_draft _ round-trips.server-ready server-named;
      client_readies = trip client_ready ready client_ready_draft _ round-trips.client-ready client-named;
      suspends = trip suspend nothing (λ u. suspend_draft) _ round-trips.suspends (λ u. suspend-named);
      resumes = trip resume nothing (λ u. resume_draft) _ round-trips.resumes (λ u. resume-named);
      dismissals = trip dismiss byte dismiss_draft _ round-trips.dismisses dismiss-named;
    }

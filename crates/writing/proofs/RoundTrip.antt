-- DEMAND 2 of touch messages: what a reading accepts is written back in no more bytes, what the strict one accepts to the same bytes, and what the
-- touch writer writes is read back, by both, to the same records and encode time.
-- Assumes nothing.
use Prim.Native.Nat.{ℕ, ◌+◌, ◌≤◌, ◌<◌}
use mathlib.Core.Path.{◌≡◌, refl, sym, ap, ◌∙◌}
use mathlib.Core.Bool.{Bool, true, false}
use mathlib.Core.List.{List, []}
use native.Mathlib.Omega.{arith}
use lib.Dec.{leb, lit<}
use lib.ListN.{length}
use borrow.Author.Tests.{le-leb, leb-true}
use Rattle.paper.specs.Refusals.{bad_count, too_long}
use Rattle.paper.specs.declared.Milliseconds.{Milliseconds}
use Rattle.digits.specs.Digits.{Bytes}
use Rattle.slices.specs.Writing.{bytes}
use Rattle.slices.proofs.Drafts.{refused, passed}
use Rattle.formats.specs.Format.{Got, got, bad}
use Rattle.integers.specs.Integer.{limit}
use Rattle.fields.specs.Integers.{taken_by, taken, strict}
use Rattle.messages.specs.Header.{header_bytes, most_bytes, write_message}
use Rattle.messages.specs.Header as event
use Rattle.messages.proofs.Laws.{header-long, message-got, message-back, message-exact, message-short, message-sound}
use Rattle.touch.specs.Limits.{most_frames}
use Rattle.house.specs.declared.Contact.{Contact}
use Rattle.framing.specs.Frame.{Frame, frames_bytes}
use Rattle.fields.proofs.Laws.{taken-range}
use Rattle.framing.specs.Format.{body_format, body_head_format}
use Rattle.touch.specs.Touch.{Touch, touch, touch_record}
use Rattle.touch.proofs.Laws.{form-touch-law}
use Rattle.touch.proofs.Agreeing.{touch-writes, touch-holds}
use Rattle.recordings.specs.Records.{frames_in}
use Rattle.reading.specs.Plain.{read_by, plainly, read_strictly}
use Rattle.reading.proofs.Agreeing.{accepted-plainly}
use Rattle.writing.specs.TouchDraft.{message_of, frames_draft, checked_frames, draft_of, touch_draft}
use Rattle.recordings.proofs.Records.{FramesFit, frames-back, frames-read}
use Rattle.writing.proofs.Checked.{checked-early, checked-got}
use Rattle.writing.proofs.Held.{frames-pack, frames-write}

-- ---- what a body that can be written is

pub record BodyFits (m : Touch) : Type 0 where
  pub time : m.time.0 < limit 2 0
  pub count : length m.frames ≤ most_frames
  pub frames : FramesFit m.frames

body_is : (m : Touch) → (touch taken false).Holds m → BodyFits m
unfolding body_format body_head_format
body_is m h =
    record { time = (taken-range.u4 m.time.0).0 h.0.0; count = leb-true _ _ h.0.1.0.1; frames = frames-pack (length m.frames) m.frames h.1.0 }

body-holds : (m : Touch) → BodyFits m → (touch taken false).Holds m
unfolding body_format body_head_format
body-holds m b =
    let n = b.count in
    (((taken-range.u4 m.time.0).1 b.time, (((taken-range.u2 (length m.frames)).1 (omega (arith, n)), le-leb _ _ n), refl)), (frames-write (length m.frames) m.frames b.frames, refl))

message-long : (time : Milliseconds) (fs : List (Frame Contact)) → length (message_of time fs) ≡ header_bytes + length ((touch taken false).write (record { time = time; frames = fs }))
unfolding write_message
message-long time fs = header-long event.touch _ _

-- ---- the draft, where each check passes

draft-is : (m : Touch) (records : List ℕ) → BodyFits m → frames_in records ≡ got m.frames [] → length (message_of m.time m.frames) ≤ most_bytes
    → touch_draft m.time records ≡ bytes (message_of m.time m.frames)
unfolding touch_draft frames_draft
draft-is m records b e k = rw (checked-early m.time records b.time, e, le-leb _ _ b.count, le-leb _ _ k)

-- ---- strictly or not, a message is written the same

message-alike : (strictly : Bool) (m : Touch) → write_message event.touch (touch (taken_by strictly) false) m ≡ message_of m.time m.frames
unfolding write_message
message-alike strictly m = rw (touch-writes strictly m)

-- and, where it is not too long, read back by both readings
body_reads : (strictly : Bool) (m : Touch) → (touch taken false).Holds m → length (message_of m.time m.frames) ≤ most_bytes → read_by strictly (message_of m.time m.frames) ≡ got m []
body_reads strictly m holds short =
    let k : header_bytes + length ((touch (taken_by strictly) false).write m) ≤ most_bytes = omega (arith, short, message-long m.time m.frames, ap length (touch-writes strictly m)) in
    ap (read_by strictly) (sym (message-alike strictly m))
    ∙ message-back (touch (taken_by strictly) false) (form-touch-law strictly false) event.touch m (touch-holds strictly m holds) k (lit< tt)

-- WHAT THE PLAIN READING ACCEPTS IS WRITTEN BACK FROM ITS RECORDS AND ITS ENCODE TIME, IN NO MORE BYTES
module _ (l : List ℕ) (m : Touch) (t : List ℕ) (hl : Bytes l) (e : plainly l ≡ got m t) where
  pub accepted-is-written-back-no-longer : length (message_of m.time m.frames) ≤ length l
  accepted-is-written-back-no-longer = message-short (touch taken false) (form-touch-law false false) event.touch l m t hl e

  short-enough : length (message_of m.time m.frames) ≤ most_bytes
  short-enough = omega (arith, accepted-is-written-back-no-longer, (message-got (touch taken false) (form-touch-law false false) event.touch l m t e).head.high)

  holds : (touch taken false).Holds m
  holds = message-sound (touch taken false) (form-touch-law false false) event.touch l m t hl e

  pub accepted-is-written-back : touch_draft m.time (frames_bytes touch_record m.frames) ≡ bytes (message_of m.time m.frames)
  accepted-is-written-back = let b = body_is m holds in draft-is m (frames_bytes touch_record m.frames) b (frames-back m.frames b.frames) short-enough

  -- and that is read to the same by both readings
  pub accepted-is-read-again : (strictly : Bool) → read_by strictly (message_of m.time m.frames) ≡ got m []
  accepted-is-read-again strictly = body_reads strictly m holds short-enough

-- WHAT THE STRICT READING ACCEPTS IS WRITTEN BACK TO THE SAME BYTES
pub strictly-accepted-is-written-back-to-the-same-bytes : (l : List ℕ) (m : Touch) (t : List ℕ) → Bytes l → read_strictly l ≡ got m t → touch_draft m.time (frames_bytes touch_record m.frames) ≡ bytes l
strictly-accepted-is-written-back-to-the-same-bytes l m t hl e =
    let x = message-exact (touch strict false) (form-touch-law true false) event.touch refl l m t hl e in
    accepted-is-written-back l m t hl (accepted-plainly l m t e) ∙ ap bytes (sym (x ∙ message-alike true m))

-- ---- a draft that is bytes passed every check

pub record Written (time : Milliseconds) (records s : List ℕ) : Type 0 where
  pub frames : List (Frame Contact)
  pub after : List ℕ
  pub read : frames_in records ≡ got frames after
  pub early : time.0 < limit 2 0
  pub few : length frames ≤ most_frames
  pub short : length (message_of time frames) ≤ most_bytes
  pub same : s ≡ message_of time frames

pub written : (time : Milliseconds) (records s : List ℕ) → touch_draft time records ≡ bytes s → Written time records s
unfolding touch_draft frames_draft
written time records s h = go (checked_frames time records) refl h
  where
    go : (x : Got (List (Frame Contact))) → checked_frames time records ≡ x → draft_of time x ≡ bytes s → Written time records s
    go (bad e) w h = refused e s h
    go (got fs t) w h =
        let c = checked-got time records fs t w in
        let p = passed (leb (length fs) most_frames) _ bad_count s h in
        let q = passed (leb (length (message_of time fs)) most_bytes) _ too_long s p.1 in
        let z : message_of time fs ≡ s = let v = q.1 in cc in
        record { frames = fs; after = t; read = c.read; early = c.early; few = leb-true _ _ p.0; short = leb-true _ _ q.0; same = sym z }

-- and its bytes are read back to the same frames
pub written-reads : (strictly : Bool) (time : Milliseconds) (records s : List ℕ) → Bytes records → (w : Written time records s) → read_by strictly s ≡ got (record { time = time; frames = w.frames }) []
written-reads strictly time records s b w =
    let r = frames-read records w.frames w.after b w.read in
    let m : Touch = record { time = time; frames = w.frames } in
    ap (read_by strictly) w.same ∙ body_reads strictly m (body-holds m (record { time = w.early; count = w.few; frames = r.fit })) w.short

-- WHAT THE TOUCH WRITER WRITES IS READ BACK TO THE SAME RECORDS AND ENCODE TIME
pub record ReadBack (strictly : Bool) (time : Milliseconds) (records s : List ℕ) : Type 0 where
  pub message : Touch
  pub reads : read_by strictly s ≡ got message []
  pub same-time : message.time ≡ time
  pub same-records : frames_bytes touch_record message.frames ≡ records

pub written-is-read-back-to-the-same-records-and-time : (strictly : Bool) (time : Milliseconds) (records s : List ℕ) → Bytes records → touch_draft time records ≡ bytes s → ReadBack strictly time records s
written-is-read-back-to-the-same-records-and-time strictly time records s b h =
    let w = written time records s h in
    record {
      message = record { time = time; frames = w.frames };
      reads = written-reads strictly time records s b w;
      same-time = refl;
      same-records = sym (frames-read records w.frames w.after b w.read).same;
    }

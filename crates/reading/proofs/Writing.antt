-- The pass that writes: frame after frame, each found where the one before it ended and written where its records ended.
-- Assumes nothing.
use Prim.Native.Nat.{ℕ, ◌+◌, ◌-◌, ◌≤◌, ◌<◌}
use mathlib.Core.Path.{◌≡◌, sym, ap, ◌∙◌}
use mathlib.Core.List.{List, [], ◌++◌}
use lib.ListN.{length}
use borrow.Rule.Slice.PartMut.{mid_of, put_mid}
use Rattle.std.specs.Prelude.{Some, None}
use Rattle.std.specs.Borrow.{Bor}
use Rattle.slices.specs.Writing.{bytes, Writes}
use Rattle.slices.specs.declared.Written.{Written}
use Rattle.slices.proofs.Laws.{writes-done}
use Rattle.formats.specs.Format.{got}
use Rattle.fields.specs.Integers.{taken}
use Rattle.house.specs.Layout.{head_bytes}
use Rattle.house.specs.declared.Head.{Head}
use Rattle.house.specs.declared.Contact.{Contact}
use Rattle.framing.specs.Frame.{Frame, contacts_bytes, frame_bytes, frames_bytes}
use Rattle.touch.specs.Touch.{frame, touch_record}
use Rattle.frame_records.specs.Frames.{WritesFrame, FindsFrame}
use Rattle.frame_records.proofs.Laws.{frame_is, frames-cons, frames-none, frame-written}
use Rattle.frame_records.proofs.Finding.{turn, no-turn}
use Rattle.frame_records.proofs.Passes.{Ahead, ahead-room, ahead-next, ahead-done}
use Rattle.reading.specs.Passes.{frames, WritesFrames}

-- n frames of l are written over d: k of them are to come, at the front of `left`
pub record Writing (n : ℕ) (l d out : List ℕ) (pos : ℕ) (left : List ℕ) (k : ℕ) : Type 0 where
  pub whole : List (Frame Contact)
  pub read : (frames n).read l ≡ got whole []
  pub ahead : Ahead (frame taken) (frames_bytes touch_record) d whole [] out pos left k

module _ (n : ℕ) (l d : List ℕ) where
  module _ (out : List ℕ) (pos : ℕ) (left : List ℕ) (k : ℕ) (h : Writing n l d out pos left k) where
    -- a frame was found, and w answered for its records, written through the tail that came back as o
    pub writing-next : (head : Head) (s b : Bor (List ℕ)) (w : Written) (o : List ℕ) (j : ℕ) → k ≡ j + 1 → FindsFrame left (Some (head, s, b))
        → WritesFrame head s.now w (mid_of pos (length out - pos) out) o → Writing n l d (put_mid pos (length out - pos) out o) (pos + w.bytes) b.now j
    writing-next head s b w o j i here written =
        let a = h.ahead in
        let x = turn left head s b here [] k j a.more i a.read in
        let f = x.frame in
        let y : Writes (bytes (head_bytes head ++ contacts_bytes touch_record f.contacts)) w (mid_of pos (length out - pos) out) o = frame-written head s.now f.contacts b.now x.contacts w _ o written in
        let e : head_bytes head ++ contacts_bytes touch_record f.contacts ≡ frame_bytes touch_record f = ap (λ g. head_bytes g ++ contacts_bytes touch_record f.contacts) x.head ∙ sym (frame_is f) in
        let z : Writes (bytes (frame_bytes touch_record f)) w (mid_of pos (length out - pos) out) o = rw e at y in
        let v = writes-done _ _ _ _ z (ahead-room (frame taken) (frames_bytes touch_record) d h.whole [] out pos left k a f (frame_bytes touch_record f) x.others x.all (frames-cons f)) in
        record {
          whole = h.whole;
          read = h.read;
          ahead = ahead-next (frame taken) (frames_bytes touch_record) d h.whole [] out pos left k a f (frame_bytes touch_record f) x.others x.all (frames-cons f) b.now o w.bytes j x.after v.output v.count;
        }

    -- there is a frame for each that is to come
    pub writing-none : 0 < k → FindsFrame left None → WritesFrames n l d out
    writing-none i here = no-turn left here.0 [] k h.ahead.more i here.1 h.ahead.read

    pub writing-done : k ≤ 0 → WritesFrames n l d out
    writing-done i fs t e =
        let p : got fs t ≡ got h.whole [] = sym e ∙ h.read in
        let q : h.whole ≡ fs = cc in
        rw q at (ahead-done (frame taken) (frames_bytes touch_record) d h.whole [] out pos left k h.ahead i frames-none)

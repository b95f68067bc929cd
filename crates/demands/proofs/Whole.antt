-- What the plain reading and the receiver write are records of whole frames, each of them well formed.
-- Assumes nothing.
use Prim.Native.Nat.{ℕ, zero, ◌*◌, ◌<◌}
use mathlib.Core.Path.{◌≡◌, refl, ap, ◌∙◌}
use mathlib.Core.Bool.{Bool, true, false, cond}
use mathlib.Core.List.{List, [], ◌∷◌, append-nil}
use lib.Dec.{leb, lit<, lit≤}
use lib.ListN.{length, take, drop}
use borrow.Author.Tests.{leb-true, leb-false}
use Rattle.paper.specs.Refusals.{none, no_room, bad_record}
use Rattle.digits.specs.Digits.{Bytes}
use Rattle.digits.proofs.Laws.{bytes_drop}
use Rattle.formats.specs.Format.{Got, got, bad}
use Rattle.fields.specs.Integers.{taken}
use Rattle.house.specs.Fields.{record_bytes}
use Rattle.house.specs.Layout.{touched, cancelled, dismissed, contact_bytes, record_of}
use Rattle.house.specs.declared.Contact.{Contact}
use Rattle.house.specs.declared.Record.{Record}
use Rattle.house.proofs.Front.{Front, front, record-head, record-contact}
use Rattle.well_formed.specs.WellFormed.{well_formed}
use Rattle.well_formed.proofs.Front.{well-short}
use Rattle.well_formed.proofs.WellFormed.{never}
use Rattle.messages.specs.Header.{header_bytes}
use Rattle.messages.specs.Header as event
use Rattle.messages.proofs.Laws.{message-got}
use Rattle.framing.specs.Frame.{Frame, head_of, contacts_bytes, frame_bytes, frames_bytes}
use Rattle.framing.specs.Whole.{Framed, ends, contact, cancel, dismissal, FramesWhole}
use Rattle.framing.proofs.Whole.{contact-formed, head-framed, framed_then, each-is-well-formed}
use Rattle.touch.specs.Touch.{Touch, touch, touch_record}
use Rattle.touch.proofs.Laws.{form-touch-law}
use Rattle.touch.proofs.Ranges.{ContactRead}
use Rattle.stream.specs.Set.{Happening}
use Rattle.stream.specs.Asked.{All, FrameFits}
use Rattle.stream.proofs.Kept.{timed-fit}
use Rattle.reading.specs.Plain.{read_by, plainly, ReadsBy}
use Rattle.reading.proofs.Agreeing.{accepted-plainly}
use Rattle.reading.specs.declared.PlainAnswer.{PlainAnswer}
use Rattle.recordings.proofs.Records.{kind-touched}
use Rattle.receiver.specs.Receive.{fresh, untimed}
use Rattle.receiver.specs.declared.Receiver.{Receiver}
use Rattle.receiver.specs.declared.Answer.{Answer}
use Rattle.demands.specs.Histories.{Call, Calls, History, last, records_left}
use Rattle.demands.proofs.Histories.{sent_by, call-left, calls-kept}
use Rattle.receiver.proofs.Became.{Became, became, refused, settles, touches, dismisses}
use Rattle.receiver.proofs.Fitting.{body-read}
use Rattle.receiver.proofs.Invariants.{Kept, message-read}
use Rattle.flat_records.specs.Flat.{flattened, flat}
use Rattle.flat_records.specs.Flat as flat-record
use Rattle.flat_records.specs.declared.FlatRecord.{FlatRecord}
use Rattle.demands.specs.Whole.{WritesWholeFrames}
use Rattle.demands.proofs.Made.{Made, touched-made, dismissed-made}
use Rattle.demands.proofs.RoundTrip.{judged as reading-judged, read-front}
use Rattle.demands.specs.RoundTrip.{Refused, records_read}

-- ---- frames that were read

contacts-framed : (cs : List Contact) → All ContactRead cs → Framed (length cs) (contacts_bytes touch_record cs)
unfolding contacts_bytes
contacts-framed [] h = ends
contacts-framed (c ∷ cs) h =
    contact (length cs) (touch_record c) (contacts_bytes touch_record cs) (contact-formed touched c (lit≤ tt) (lit< tt) h.0.fits h.0.well (kind-touched c))
    (contacts-framed cs h.1)

frame-whole : (f : Frame Contact) → FrameFits ContactRead f → FramesWhole (frame_bytes touch_record f)
unfolding frame_bytes
frame-whole f h = head-framed (head_of f) (contacts_bytes touch_record f.contacts) h.head (contacts-framed f.contacts h.contacts)

frames-whole : (fs : List (Frame Contact)) → All (FrameFits ContactRead) fs → FramesWhole (frames_bytes touch_record fs)
unfolding frames_bytes
frames-whole [] h = ends
frames-whole (f ∷ fs) h = framed_then zero (frame_bytes touch_record f) (frames_bytes touch_record fs) (frame-whole f h.0) (frames-whole fs h.1)

-- ---- what a message writes

whole-made : Made FramesWhole (FrameFits ContactRead)
whole-made =
    record {
      nothing = ends;
      both = framed_then zero;
      frame = λ f k q. frame-whole f k;
      cancel = λ c h. rw append-nil at (cancel (contact_bytes cancelled c) [] h.formed ends);
      dismissal = λ c h. rw append-nil at (dismissal (contact_bytes dismissed c) [] h.formed ends);
    }

became-whole : (r : Receiver) (l : List ℕ) {q : Receiver} {s : List ℕ} {a : Answer} {fs : List (Frame Contact)} {ds : List (Happening Contact)} → Bytes l → Kept r → Became r l q s a fs ds → FramesWhole s
became-whole r l b k (refused n) = ends
became-whole r l b k (settles s o) = ends
became-whole r l b k (touches m t o e) = touched-made whole-made r l m t b k e (timed-fit ContactRead (untimed r) m.frames (message-read r l m t b e))
became-whole r l b k (dismisses id t o e) = dismissed-made whole-made r id k

-- ---- over the calls

none-whole : (n : ℕ) (a : PlainAnswer) (before out : List ℕ) → Refused n a before out → FramesWhole (take (record_bytes * a.records) out)
none-whole n a before out h =
    let e : take (record_bytes * a.records) out ≡ [] = ap (λ (v : PlainAnswer). take (record_bytes * v.records) out) h.answer in
    rw e ends

-- the frames that a reading reads
plainly-read : (message : List ℕ) (m : Touch) (t : List ℕ) → Bytes message → plainly message ≡ got m t → All (FrameFits ContactRead) m.frames
plainly-read message m t b e =
    body-read false (drop header_bytes message) m t (bytes_drop header_bytes message b) (message-got (touch taken false) (form-touch-law false false) event.touch message m t e).rest

frames-read : (strictly : Bool) (message : List ℕ) (m : Touch) (t : List ℕ) → Bytes message → read_by strictly message ≡ got m t → All (FrameFits ContactRead) m.frames
frames-read true message m t b e = plainly-read message m t b (accepted-plainly message m t e)
frames-read false message m t b e = plainly-read message m t b e

reading-whole : (strictly : Bool) (message : List ℕ) (a : PlainAnswer) (before out : List ℕ) → Bytes message → ReadsBy strictly message a before out → FramesWhole (records_read a out)
reading-whole strictly message a before out b h = go (read_by strictly message) refl
  where
    go : (x : Got Touch) → read_by strictly message ≡ x → FramesWhole (take (record_bytes * a.records) out)
    go (bad n) e = none-whole n a before out ((reading-judged strictly message a before out h).refuses n e)
    go (got m t) e = by (leb (length (frames_bytes touch_record m.frames)) (length before)) refl
      where
        by : (c : Bool) → leb (length (frames_bytes touch_record m.frames)) (length before) ≡ c → FramesWhole (take (record_bytes * a.records) out)
        by true r =
            rw (read-front m.time m.frames a before out ((reading-judged strictly message a before out h).accepts m t e (leb-true _ _ r)))
            (frames-whole m.frames (frames-read strictly message m t b e))
        by false r = none-whole no_room a before out ((reading-judged strictly message a before out h).lacks_room m t e (leb-false _ _ r))

-- a well-formed record is read
front_read : (l : List ℕ) → Front l → well_formed l ≡ true → (flattened (record_of l)).refusal ≡ none
front_read l (Front.short h) w = never w (well-short l h)
front_read l (Front.head h k) w = ap (λ (r : Record). (flattened r).refusal) (record-head l h k)
front_read l (Front.contact h k) w = ap (λ (r : Record). (flattened r).refusal) (record-contact l h k)

well-read : (l : List ℕ) → well_formed l ≡ true → (flat l).refusal ≡ none
unfolding flat
well-read l w = ap (λ (b : Bool). (cond b (flattened (record_of l)) (flat-record.refused bad_record)).refusal) w ∙ front_read l (front l) w

received-whole : (h : List Call) → History h → (c : Call) → Calls (last fresh h) (c ∷ []) → Bytes c.message → FramesWhole (records_left c)
unfolding Calls
received-whole h k c a b =
    let r = last fresh h in
    rw (call-left r c a.0) (became-whole r c.message b (calls-kept h k) (became r (sent_by c)))

pub writes-whole-frames : WritesWholeFrames
writes-whole-frames =
    record {
      readings = reading-whole;
      receiver = received-whole;
      formed = λ l i h k. each-is-well-formed zero l h i k;
      readable = λ l i r h k e. ap (λ (v : FlatRecord). v.refusal) e ∙ well-read (drop (record_bytes * i) l) (each-is-well-formed zero l h i k);
    }

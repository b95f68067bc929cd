-- What is true of a receiver after any history.
-- Assumes nothing.
use Prim.Native.Nat.{ℕ, ◌+◌, ◌≤◌}
use mathlib.Core.Path.{◌≡◌, refl, sym, subst}
use mathlib.Core.Bool.{Bool, true, false, cond, not}
use mathlib.Core.List.{List, [], ◌∷◌}
use native.Mathlib.Omega.{arith}
use borrow.Author.Tests.{eqb-false}
use lib.Dec.{eqb}
use lib.ListN.{length, drop}
use Rattle.digits.specs.Digits.{Bytes}
use Rattle.digits.proofs.Laws.{bytes_drop}
use Rattle.messages.specs.Header.{header_bytes}
use Rattle.messages.specs.declared.Ready.{Ready}
use Rattle.formats.specs.Format.{got}
use Rattle.fields.specs.Integers.{taken}
use Rattle.house.specs.declared.Contact.{Contact}
use Rattle.well_formed.proofs.WellFormed.{never}
use Rattle.framing.specs.Frame.{Frame, begun_by}
use Rattle.touch.specs.Touch.{Touch, body}
use Rattle.touch.proofs.Ranges.{ContactRead}
use Rattle.machine.specs.Table.{resting}
use Rattle.machine.proofs.Held.{nobody-length}
use Rattle.stream.specs.Stream.{Stream, frames}
use Rattle.stream.specs.Set.{Happening}
use Rattle.stream.specs.Asked.{All, FrameFits, Proper, AllProper}
use Rattle.stream.proofs.Steadiness.{resting-steady, dismiss-steady}
use Rattle.stream.proofs.Kept.{next-kept as stream-kept}
use Rattle.stream.proofs.Kept as stream
use Rattle.stream.proofs.Demand.{counts-add-up-to-frame-count}
use Rattle.receiver.specs.declared.Receiver.{Receiver}
use Rattle.receiver.specs.declared.Answer.{Answer}
use Rattle.receiver.specs.Receive.{machine_of, fresh, settled, touched, dismissed_by, judged}
use Rattle.channel.specs.Marks.{off, mark}
use Rattle.receiver.specs.History.{Sent, OfBytes, next, answer_to, after, table_of, frames_taken, touch_profile, stream_of, machine_at}
use Rattle.receiver.proofs.Became.{Became, became, refused, settles, touches, dismisses}
use Rattle.receiver.proofs.Fitting.{body-read}
use Rattle.receiver.proofs.Lawful.{OneOfThree, PlaceFits, Fits, read_fits, touch-law}
use Rattle.receiver.proofs.Streaming.{from_became, givens, stream-next, stream-touched}

-- ---- what every message keeps

-- of the stream
abbrev pub StreamKept : Stream Ready → Type 0
StreamKept = stream.Kept touch_profile OneOfThree PlaceFits

-- each mark is 0 or 1
pub record Marked (r : Receiver) : Type 0 where
  pub ready : r.ready ≤ 1
  pub begun : r.begun ≤ 1
  pub ignoring : r.ignoring ≤ 1

pub record Kept (r : Receiver) : Type 0 where
  pub stream : StreamKept (stream_of r)
  pub marks : Marked r
  pub unready : off r.ready ≡ true → table_of r ≡ resting

pub fresh_kept : Kept fresh
unfolding fresh
fresh_kept =
    record {
      stream = resting-steady touch-law 0 (machine_of fresh) refl (λ e. refl) nobody-length;
      marks = record { ready = omega arith; begun = omega arith; ignoring = omega arith };
      unready = λ e. refl;
    }

-- the frames of a message that a receiver reads, and that they fit its records
pub message-read : (r : Receiver) (l : List ℕ) (m : Touch) (t : List ℕ) → Bytes l → body taken (judged r) (drop header_bytes l) ≡ got m t → All (FrameFits ContactRead) m.frames
message-read r l m t hl e = body-read (judged r) (drop header_bytes l) m t (bytes_drop header_bytes l hl) e

contacts-fit : (cs : List Contact) → All ContactRead cs → All Fits cs
contacts-fit [] h = tt
contacts-fit (c ∷ cs) h = (read_fits c h.0, contacts-fit cs h.1)

pub frames-fit : (fs : List (Frame Contact)) → All (FrameFits ContactRead) fs → All (FrameFits Fits) fs
frames-fit [] h = tt
frames-fit (f ∷ fs) h = (record { head = h.0.head; contacts = contacts-fit f.contacts h.0.contacts }, frames-fit fs h.1)

pub message-fits : (r : Receiver) (l : List ℕ) (m : Touch) (t : List ℕ) → Bytes l → body taken (judged r) (drop header_bytes l) ≡ got m t → All (FrameFits Fits) m.frames
message-fits r l m t hl e = frames-fit m.frames (message-read r l m t hl e)

-- a message asks of the stream nothing but what is proper
became-proper : (r : Receiver) (l : List ℕ) {q : Receiver} {s : List ℕ} {a : Answer} {fs : List (Frame Contact)} {ds : List (Happening Contact)} → Bytes l → Kept r → (b : Became r l q s a fs ds) → Proper Fits (stream_of r) (from_became b)
became-proper r l hl k (refused n) = tt
became-proper r l hl k (settles s o) = k.unready o
became-proper r l hl k (touches m t o e) = message-fits r l m t hl e
became-proper r l hl k (dismisses id t o e) = tt

mark-small : (b : Bool) → mark b ≤ 1
mark-small true = omega arith
mark-small false = omega arith

begun-small : (begun n : ℕ) → begun ≤ 1 → begun_by 1 begun n ≤ 1
begun-small begun n h = go (eqb n 0)
  where
    go : (b : Bool) → cond b begun 1 ≤ 1
    go true = h
    go false = omega arith

-- each effect keeps it
pub settled-kept : (r : Receiver) (s : Ready) → off r.ready ≡ true → Kept r → Kept (settled r s).receiver
settled-kept r s o k =
    record {
      stream = resting-steady touch-law s.most (machine_of r) (k.unready o) k.stream.empty k.stream.marks;
      marks = record { ready = omega arith; begun = k.marks.begun; ignoring = k.marks.ignoring };
      unready = λ u. never u refl;
    }

pub touched-kept : (r : Receiver) (m : Touch) → off r.ready ≡ false → All (FrameFits Fits) m.frames → Kept r → Kept (touched r m).receiver
unfolding touched
touched-kept r m o f k =
    record {
      stream = subst StreamKept (sym (stream-touched r m)) (stream-kept touch-law (stream_of r) (frames m.frames) f k.stream);
      marks = record {
        ready = k.marks.ready;
        begun = begun-small r.begun (length m.frames) k.marks.begun;
        ignoring = mark-small (not (machine_at r m.frames).running);
      };
      unready = λ u. never u o;
    }

pub dismissed-kept : (r : Receiver) (id : ℕ) → off r.ready ≡ false → Kept r → Kept (dismissed_by r id).receiver
dismissed-kept r id o k =
    record {
      stream = dismiss-steady touch-law r.settings.most (machine_of r) id k.stream;
      marks = record { ready = k.marks.ready; begun = k.marks.begun; ignoring = k.marks.ignoring };
      unready = λ u. never u o;
    }

became-kept : (r : Receiver) (l : List ℕ) {q : Receiver} {s : List ℕ} {a : Answer} {fs : List (Frame Contact)} {ds : List (Happening Contact)} → Bytes l → Kept r → Became r l q s a fs ds → Kept q
became-kept r l hl k (refused n) = k
became-kept r l hl k (settles s o) = settled-kept r s o k
became-kept r l hl k (touches m t o e) = touched-kept r m o (message-fits r l m t hl e) k
became-kept r l hl k (dismisses id t o e) = dismissed-kept r id o k

pub next-kept : (r : Receiver) (x : Sent) → Bytes x.message → Kept r → Kept (next r x)
next-kept r x hl k = became-kept r x.message hl k (became r x)

after_kept : (r : Receiver) (h : List Sent) → OfBytes h → Kept r → Kept (after r h)
unfolding after
after_kept r [] b k = k
after_kept r (x ∷ h) b k = after_kept (next r x) h b.1 (next-kept r x b.0 k)

pub history-kept : (h : List Sent) → OfBytes h → Kept (after fresh h)
history-kept h b = after_kept fresh h b fresh_kept

-- a mark that is not off
pub mark-one : (n : ℕ) → n ≤ 1 → off n ≡ false → n ≡ 1
mark-one n h o = omega (arith, eqb-false n 0 o)

-- all that a history is to the stream is proper
pub givens-proper : (r : Receiver) (h : List Sent) → OfBytes h → Kept r → AllProper touch_profile Fits (stream_of r) (givens r h)
unfolding AllProper givens
givens-proper r [] b k = tt
givens-proper r (x ∷ h) b k =
    (became-proper r x.message b.0 k (became r x), subst (λ (s : Stream Ready). AllProper touch_profile Fits s (givens (next r x) h)) (stream-next r x) (givens-proper (next r x) h b.1 (next-kept r x b.0 k)))

-- ---- the counts of a message

became-counts : (r : Receiver) (l : List ℕ) {q : Receiver} {s : List ℕ} {a : Answer} {fs : List (Frame Contact)} {ds : List (Happening Contact)} → Became r l q s a fs ds → a.injected + a.ignored + a.cancelled ≡ length fs
unfolding touched
became-counts r l (refused n) = refl
became-counts r l (settles s o) = refl
became-counts r l (touches m t o e) = counts-add-up-to-frame-count touch_profile (stream_of r) m.frames
became-counts r l (dismisses id t o e) = refl

pub answer-counts : (r : Receiver) (x : Sent) → (answer_to r x).injected + (answer_to r x).ignored + (answer_to r x).cancelled ≡ length (frames_taken r x)
answer-counts r x = became-counts r x.message (became r x)

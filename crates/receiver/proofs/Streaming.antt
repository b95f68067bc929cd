-- What a message does to a receiver it does to the receiver's stream.
-- Assumes nothing.
use Prim.Native.Nat.{ℕ}
use mathlib.Core.Path.{◌≡◌, refl, sym, ap, subst, ◌∙◌}
use mathlib.Core.Bool.{Bool, true, false, cond, not}
use mathlib.Core.List.{List, [], ◌∷◌, ◌++◌, append-nil}
use lib.Dec.{eqb}
use lib.ListN.{length}
use Rattle.paper.specs.Refusals.{none}
use Rattle.messages.specs.declared.Ready.{Ready}
use Rattle.house.specs.declared.Contact.{Contact}
use Rattle.framing.specs.Frame.{Frame, begun_by}
use Rattle.touch.specs.Touch.{Touch}
use Rattle.contacts.specs.Touch.{touch_view}
use Rattle.stream.specs.Stream.{Stream, Given, nothing, settings, frames, dismissal, frames_given}
use Rattle.stream.specs.Stream as stream
use Rattle.stream.specs.Set.{Happening, frames_log, log_of}
use Rattle.receiver.specs.declared.Receiver.{Receiver}
use Rattle.receiver.specs.declared.Answer.{Answer}
use Rattle.receiver.specs.Receive.{rules_of, machine_of, touched}
use Rattle.channel.specs.Marks.{off, mark}
use Rattle.receiver.specs.History.{Sent, next, answer_to, wrote, after, written, frames_taken, dismiss_in, dismissal_of, UnopenedAfter, Unopened, touch_profile, stream_of, machine_at, bytes_at}
use Rattle.receiver.proofs.Became.{Became, became, refused, settles, touches, dismisses}

-- ---- the machine of a receiver after a touch message is the one that its frames leave

off-mark : (b : Bool) → off (mark (not b)) ≡ b
off-mark true = refl
off-mark false = refl

pub machine-touched : (r : Receiver) (m : Touch) → machine_of (touched r m).receiver ≡ machine_at r m.frames
unfolding touched
machine-touched r m =
    let a = machine_at r m.frames in
    λ i. record { table = a.table; running = off-mark a.running i; held = a.held }

pub bytes-touched : (r : Receiver) (m : Touch) → (touched r m).bytes ≡ bytes_at r m.frames
unfolding touched
bytes-touched r m = refl

begun-touched : (begun n : ℕ) → not (off (begun_by 1 begun n)) ≡ begun_by true (not (off begun)) n
begun-touched begun n = go (eqb n 0)
  where
    go : (b : Bool) → not (off (cond b begun 1)) ≡ cond b (not (off begun)) true
    go true = refl
    go false = refl

pub stream-touched : (r : Receiver) (m : Touch) → stream_of (touched r m).receiver ≡ stream.next touch_profile (stream_of r) (frames m.frames)
unfolding touched stream.next
stream-touched r m = λ i. record { settings = r.settings; machine = machine-touched r m i; begun = begun-touched r.begun (length m.frames) i }

-- ---- one message

-- what it is to the stream
abbrev pub from_became : {r : Receiver} {l : List ℕ} {q : Receiver} {s : List ℕ} {a : Answer} {fs : List (Frame Contact)} {ds : List (Happening Contact)} → Became r l q s a fs ds → Given Ready Contact
from_became (refused n) = nothing
from_became (settles s o) = settings s
from_became (touches m t o e) = frames m.frames
from_became (dismisses id t o e) = dismissal id

module _ (r : Receiver) (l : List ℕ) where
  became-stream : {q : Receiver} {s : List ℕ} {a : Answer} {fs : List (Frame Contact)} {ds : List (Happening Contact)} (b : Became r l q s a fs ds) → stream_of q ≡ stream.next touch_profile (stream_of r) (from_became b)
  unfolding stream.next
  became-stream (refused n) = refl
  became-stream (settles s o) = refl
  became-stream (touches m t o e) = stream-touched r m
  became-stream (dismisses id t o e) = refl

  became-bytes : {q : Receiver} {s : List ℕ} {a : Answer} {fs : List (Frame Contact)} {ds : List (Happening Contact)} (b : Became r l q s a fs ds) → s ≡ stream.wrote touch_profile (stream_of r) (from_became b)
  unfolding stream.wrote
  became-bytes (refused n) = refl
  became-bytes (settles s o) = refl
  became-bytes (touches m t o e) = bytes-touched r m
  became-bytes (dismisses id t o e) = refl

  became-frames : {q : Receiver} {s : List ℕ} {a : Answer} {fs : List (Frame Contact)} {ds : List (Happening Contact)} (b : Became r l q s a fs ds) → frames_given (from_became b) ≡ fs
  became-frames (refused n) = refl
  became-frames (settles s o) = refl
  became-frames (touches m t o e) = refl
  became-frames (dismisses id t o e) = refl

  became-log : {q : Receiver} {s : List ℕ} {a : Answer} {fs : List (Frame Contact)} {ds : List (Happening Contact)} (b : Became r l q s a fs ds) → log_of touch_profile (stream_of r) (from_became b) ≡ frames_log touch_view (rules_of r) (machine_of r) fs ++ ds
  unfolding frames_log
  became-log (refused n) = refl
  became-log (settles s o) = refl
  became-log (touches m t o e) = sym (append-nil (frames_log touch_view (rules_of r) (machine_of r) m.frames))
  became-log (dismisses id t o e) = refl

-- what a message is to the stream, as the receiver is
abbrev pub given_by : Receiver → Sent → Given Ready Contact
given_by r x = from_became (became r x)

pub stream-next : (r : Receiver) (x : Sent) → stream_of (next r x) ≡ stream.next touch_profile (stream_of r) (given_by r x)
stream-next r x = became-stream r x.message (became r x)

pub stream-wrote : (r : Receiver) (x : Sent) → wrote r x ≡ stream.wrote touch_profile (stream_of r) (given_by r x)
stream-wrote r x = became-bytes r x.message (became r x)

pub given-frames : (r : Receiver) (x : Sent) → frames_given (given_by r x) ≡ frames_taken r x
given-frames r x = became-frames r x.message (became r x)

-- what happens by it: what becomes of its frames, each where those before it have led, or a contact is dismissed; by a refused one nothing
pub log-by : (r : Receiver) (x : Sent) → log_of touch_profile (stream_of r) (given_by r x)
    ≡ frames_log touch_view (rules_of r) (machine_of r) (frames_taken r x) ++ cond (eqb (answer_to r x).refusal none) (dismissal_of (dismiss_in r x.message)) []
log-by r x = became-log r x.message (became r x)

-- ---- a history

unfoldable pub givens : Receiver → List Sent → List (Given Ready Contact)
givens r [] = []
givens r (x ∷ h) = given_by r x ∷ givens (next r x) h

pub stream-after : (r : Receiver) (h : List Sent) → stream_of (after r h) ≡ stream.after touch_profile (stream_of r) (givens r h)
unfolding after stream.after givens
stream-after r [] = refl
stream-after r (x ∷ h) = stream-after (next r x) h ∙ ap (λ (s : Stream Ready). stream.after touch_profile s (givens (next r x) h)) (stream-next r x)

pub stream-written : (r : Receiver) (h : List Sent) → written r h ≡ stream.written touch_profile (stream_of r) (givens r h)
unfolding written stream.written givens
stream-written r [] = refl
stream-written r (x ∷ h) =
    let w = stream-written (next r x) h ∙ ap (λ (s : Stream Ready). stream.written touch_profile s (givens (next r x) h)) (stream-next r x) in
    λ i. stream-wrote r x i ++ w i

pub givens-unopened : (r : Receiver) (h : List Sent) → Unopened r h → stream.Unopened touch_profile (stream_of r) (givens r h)
unfolding Unopened stream.Unopened givens
givens-unopened r [] u = tt
givens-unopened r (x ∷ h) u = (
  subst (UnopenedAfter r []) (sym (given-frames r x)) u.0,
  subst (λ (s : Stream Ready). stream.Unopened touch_profile s (givens (next r x) h)) (stream-next r x) (givens-unopened (next r x) h u.1),
)

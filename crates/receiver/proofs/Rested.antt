-- From an opening frame on, while no contact is active, a receiver is as a rested one.
-- Assumes nothing.
use Prim.Native.Nat.{ℕ}
use mathlib.Core.Path.{◌≡◌, refl, sym, ap, ◌∙◌}
use mathlib.Core.Bool.{Bool, true, false, cond, not}
use mathlib.Core.List.{List, [], ◌∷◌, ◌++◌, append_assoc}
use native.Mathlib.Omega.{arith}
use borrow.Author.Tests.{eqb-true}
use lib.Dec.{leb}
use lib.ListN.{length, drop}
use Rattle.paper.specs.Refusals.{no_room}
use Rattle.paper.specs.declared.Milliseconds.{Milliseconds}
use Rattle.slices.specs.Writing.{given}
use Rattle.formats.specs.Format.{Got, got, bad}
use Rattle.formats.proofs.Laws.{never}
use Rattle.digits.specs.Digits.{Bytes}
use Rattle.fields.specs.Integers.{taken}
use Rattle.messages.specs.Header.{header_bytes}
use Rattle.messages.specs.declared.Ready.{Ready}
use Rattle.house.specs.declared.Contact.{Contact}
use Rattle.framing.proofs.Begun.{begun-some}
use Rattle.framing.specs.Frame.{Frame, begun_by}
use Rattle.touch.specs.Touch.{Touch, body}
use Rattle.stream.specs.Stream.{Stream, frames, NoneActive}
use Rattle.stream.specs.Stream as stream
use Rattle.stream.specs.Set.{Happening}
use Rattle.stream.proofs.Steadiness.{none-active-rests}
use Rattle.stream.proofs.Demand.{from-an-opening-frame-as-if-rested}
use Rattle.receiver.specs.declared.Receiver.{Receiver}
use Rattle.receiver.specs.declared.Answer.{Answer}
use Rattle.receiver.specs.Receive.{Effect, judged, touched, effect, refusal, answer_of, receiver_after, answer_after, untimed, time_by}
use Rattle.channel.specs.Marks.{off, mark}
use Rattle.receiver.specs.History.{Sent, next, answer_to, wrote, after, written, outcomes, messages_of, Roomy, table_of, touch_in, rested, touch_profile, stream_of, machine_at, bytes_at, opens_after, Cut, AsRested}
use Rattle.receiver.proofs.Became.{Does, does, fails, settles, touches, dismisses}
use Rattle.receiver.proofs.Lawful.{touch-law}
use Rattle.receiver.proofs.Streaming.{bytes-touched, stream-touched}
use Rattle.receiver.proofs.Invariants.{Kept, message-fits, mark-one}

-- ---- a receiver that frames leave is known from its stream

abbrev of_stream : ℕ → Stream Ready → Receiver
of_stream ready s =
    record {
      ready = ready;
      begun = mark s.begun;
      ignoring = mark (not s.machine.running);
      settings = s.settings;
      states = s.machine.table.states;
      xs = s.machine.table.xs;
      ys = s.machine.table.ys;
      held = s.machine.held;
    }

mark-off : (b : Bool) → mark (not b) ≡ mark (not (off (mark (not b))))
mark-off true = refl
mark-off false = refl

from-stream : (r : Receiver) (time : Milliseconds) (fs : List (Frame Contact)) (f : Frame Contact) (gs : List (Frame Contact))
    → let q : Receiver = (touched r (record { time = time; frames = fs ++ (f ∷ gs) })).receiver in q ≡ of_stream r.ready (stream_of q)
unfolding touched
from-stream r time fs f gs =
    let a = machine_at r (fs ++ (f ∷ gs)) in
    let b = begun-some 1 r.begun fs f gs in
    let c : begun_by 1 r.begun (length (fs ++ (f ∷ gs))) ≡ mark (not (off (begun_by 1 r.begun (length (fs ++ (f ∷ gs)))))) = rw b in
    λ i. record {
      ready = r.ready;
      begun = c i;
      ignoring = mark-off a.running i;
      settings = r.settings;
      states = a.table.states;
      xs = a.table.xs;
      ys = a.table.ys;
      held = a.held;
    }

rested-stream : (x : Ready) → stream_of (rested x) ≡ stream.rested x
unfolding rested stream.rested
rested-stream x = refl

-- "A rested receiver has accepted event 2, is past its first frame, is running, and has no active contact.": there is one for settings, as
-- outside ignoring the set is empty
pub at_rest : (r : Receiver) → Kept r → off r.ready ≡ false → off r.begun ≡ false → off r.ignoring ≡ true → NoneActive (table_of r) → r ≡ rested r.settings
unfolding rested
at_rest r k ready begun running idle =
    let t = none-active-rests (table_of r) k.stream.table.whole k.stream.table.places idle in
    λ i. record {
      ready = mark-one r.ready k.marks.ready ready i;
      begun = mark-one r.begun k.marks.begun begun i;
      ignoring = eqb-true r.ignoring 0 running i;
      settings = r.settings;
      states = (t i).states;
      xs = (t i).xs;
      ys = (t i).ys;
      held = k.stream.empty running i;
    }

-- ---- a message that is not refused for lack of room

pub record Taken (r : Receiver) (x : Sent) (e : Effect) : Type 0 where
  pub next : next r x ≡ e.receiver
  pub answer : answer_to r x ≡ answer_of e
  pub wrote : wrote r x ≡ e.bytes

abbrev HasRoom : Receiver → Sent → Type 0
HasRoom r x = (answer_to r x).refusal ≡ no_room → ⊥

pub takes-effect : (r : Receiver) (x : Sent) (e : Effect) (t : List ℕ) → effect r x.message ≡ got e t → HasRoom r x → Taken r x e
unfolding next answer_to wrote receiver_after answer_after given
takes-effect r x e t h = rw h (go (leb (length e.bytes) x.room) refl)
  where
    go : (b : Bool) → leb (length e.bytes) x.room ≡ b → ((cond b (answer_of e) (refusal no_room)).refusal ≡ no_room → ⊥) → Taken r x e
    go true k u = record { next = rw (h, k); answer = rw (h, k); wrote = rw (h, k) }
    go false k u = absurd (u refl)

-- a touch message
pub touch-body : (r : Receiver) (l : List ℕ) (m : Touch) (t : List ℕ) → touch_in r l ≡ got m t → (off r.ready ≡ false) × (body taken (judged r) (drop header_bytes l) ≡ got m t)
touch-body r l m t h = go (does r l) h
  where
    go : {x : Got Effect} {g : Got Touch} {ds : List (Happening Contact)} → Does r l x g ds → g ≡ got m t → (off r.ready ≡ false) × (body taken (judged r) (drop header_bytes l) ≡ got m t)
    go (fails n k) e = never k m t e
    go (settles s u k o) e = never k m t e
    go (touches n u o b) e = (o, b ∙ e)
    go (dismisses id u k o b) e = never k m t e

pub touch-effect : (r : Receiver) (l : List ℕ) (m : Touch) (t : List ℕ) → touch_in r l ≡ got m t → effect r l ≡ got (touched r m) t
touch-effect r l m t h = go (does r l) h
  where
    go : {x : Got Effect} {g : Got Touch} {ds : List (Happening Contact)} → Does r l x g ds → g ≡ got m t → x ≡ got (touched r m) t
    go (fails n k) e = never k m t e
    go (settles s u k o) e = never k m t e
    go (touches n u o b) e = let zm : n ≡ m = cc in let zt : u ≡ t = cc in λ i. got (touched r (zm i)) (zt i)
    go (dismisses id u k o b) e = never k m t e

-- ---- the same messages, lent other rooms, to one receiver

one-outcome : (r : Receiver) (x y : Sent) → x.message ≡ y.message → HasRoom r x → HasRoom r y
    → (next r x ≡ next r y) × (answer_to r x ≡ answer_to r y) × (wrote r x ≡ wrote r y)
unfolding next answer_to wrote receiver_after answer_after given
one-outcome r x y e hx hy = go (effect r x.message) refl
  where
    go : (g : Got Effect) → effect r x.message ≡ g → (next r x ≡ next r y) × (answer_to r x ≡ answer_to r y) × (wrote r x ≡ wrote r y)
    go (bad n) h =
        let k : effect r y.message ≡ bad n = rw (← e) h in
        rw (h, k) (refl, refl, refl)
    go (got a t) h =
        let k : effect r y.message ≡ got a t = rw (← e) h in
        let p = takes-effect r x a t h hx in
        let q = takes-effect r y a t k hy in
        (p.next ∙ sym q.next, p.answer ∙ sym q.answer, p.wrote ∙ sym q.wrote)

pub record Same (r : Receiver) (h k : List Sent) : Type 0 where
  pub outcomes : outcomes r h ≡ outcomes r k
  pub written : written r h ≡ written r k
  pub after : after r h ≡ after r k

no-message : {P : Type 0} (x : Sent) (h : List Sent) → [] ≡ messages_of (x ∷ h) → P
no-message x h e = absurd (omega (arith, ap length e))

pub same-outcomes : (r : Receiver) (h k : List Sent) → messages_of h ≡ messages_of k → Roomy r h → Roomy r k → Same r h k
unfolding outcomes written after Roomy
same-outcomes r [] [] e a b = record { outcomes = refl; written = refl; after = refl }
same-outcomes r [] (y ∷ k) e a b = no-message y k e
same-outcomes r (x ∷ h) [] e a b = no-message x h (sym e)
same-outcomes r (x ∷ h) (y ∷ k) e a b =
    let first : x.message ≡ y.message = cc in
    let others : messages_of h ≡ messages_of k = cc in
    let o = one-outcome r x y first a.0 b.0 in
    let more : Roomy (next r x) k = rw o.0 b.1 in
    let i = same-outcomes (next r x) h k others a.1 more in
    let os = i.outcomes ∙ ap (λ (q : Receiver). outcomes q k) o.0 in
    let ws = i.written ∙ ap (λ (q : Receiver). written q k) o.0 in
    record {
      outcomes = λ j. record { receiver = o.0 j; answer = o.1 j; bytes = o.2 j } ∷ os j;
      written = λ j. o.2 j ++ ws j;
      after = i.after ∙ ap (λ (q : Receiver). after q k) o.0;
    }

-- ---- the two receivers

time-same : (r : Receiver) (m n : Touch) → m.time ≡ n.time → (touched r m).time ≡ (touched (rested r.settings) n).time
unfolding touched rested
time-same r m n e = ap (time_by (untimed r)) e

module _ (r : Receiver) (k : Kept r) (x y : Sent) (b : Bytes x.message) (fs : List (Frame Contact)) (f : Frame Contact) (gs : List (Frame Contact)) (c : Cut r x.message y.message fs f gs) (o : opens_after r fs f ≡ true)
    (idle : NoneActive (machine_at r fs).table) where
  abbrev whole : Touch
  whole = record { time = c.time; frames = fs ++ (f ∷ gs) }

  abbrev part : Touch
  part = record { time = c.time; frames = f ∷ gs }

  -- the two streams
  from-here : stream.AsRested touch_profile (stream_of r) fs f gs []
  from-here =
      let fits = message-fits r x.message whole [] b (touch-body r x.message whole [] c.whole).1 in
      from-an-opening-frame-as-if-rested touch-law (stream_of r) k.stream fs f gs fits o idle []

  streams-same : stream_of (touched r whole).receiver ≡ stream_of (touched (rested r.settings) part).receiver
  streams-same =
      stream-touched r whole
      ∙ (from-here.stream
      ∙ sym (stream-touched (rested r.settings) part ∙ ap (λ (s : Stream Ready). stream.next touch_profile s (frames (f ∷ gs))) (rested-stream r.settings)))

  receivers-same : (touched r whole).receiver ≡ (touched (rested r.settings) part).receiver
  unfolding rested
  receivers-same =
      let one = mark-one r.ready k.marks.ready (touch-body r x.message whole [] c.whole).0 in
      from-stream r c.time fs f gs ∙ ((λ i. of_stream (one i) (streams-same i)) ∙ sym (from-stream (rested r.settings) c.time [] f gs))

  bytes_same : (touched r whole).bytes ≡ bytes_at r fs ++ (touched (rested r.settings) part).bytes
  unfolding stream.wrote
  bytes_same =
      let q = bytes-touched (rested r.settings) part ∙ ap (λ (s : Stream Ready). stream.bytes_at touch_profile s (f ∷ gs)) (rested-stream r.settings) in
      bytes-touched r whole ∙ (from-here.bytes ∙ ap (λ (l : List ℕ). bytes_at r fs ++ l) (sym q))

  pub as-rested : (more others : List Sent) → messages_of more ≡ messages_of others → Roomy r (x ∷ more) → Roomy (rested r.settings) (y ∷ others) → AsRested r x y fs more others
  unfolding Roomy written
  as-rested more others same hr hq =
      let q = rested r.settings in
      let tr = takes-effect r x (touched r whole) [] (touch-effect r x.message whole [] c.whole) hr.0 in
      let tq = takes-effect q y (touched q part) [] (touch-effect q y.message part [] c.part) hq.0 in
      let n : next r x ≡ next q y = tr.next ∙ (receivers-same ∙ sym tq.next) in
      let w : wrote r x ≡ bytes_at r fs ++ wrote q y = tr.wrote ∙ (bytes_same ∙ ap (λ (s : List ℕ). bytes_at r fs ++ s) (sym tq.wrote)) in
      let hs : Roomy (next r x) others = rw n hq.1 in
      let i = same-outcomes (next r x) more others same hr.1 hs in
      let ws = i.written ∙ ap (λ (p : Receiver). written p others) n in
      record {
        receiver = n;
        bytes = w;
        time = ap (λ (a : Answer). a.time) tr.answer ∙ (time-same r whole part refl ∙ sym (ap (λ (a : Answer). a.time) tq.answer));
        outcomes = i.outcomes ∙ ap (λ (p : Receiver). outcomes p others) n;
        written = (λ j. w j ++ ws j) ∙ append_assoc (bytes_at r fs) (wrote q y) (written (next q y) others);
      }

-- Request #106 holds: what happened by calls is what happened in their history, and a frame that only hovers conforms where every contact is out of
-- range.
-- Assumes nothing.
use Prim.Native.Nat.{ℕ, ◌≤◌, ◌<◌}
use mathlib.Core.Path.{◌≡◌, refl, sym, ap, subst, ◌∙◌}
use mathlib.Core.Bool.{Bool, true, false, cond, not}
use mathlib.Core.List.{List, [], ◌∷◌, ◌++◌}
use native.Mathlib.Omega.{arith}
use borrow.Author.Tests.{eqb-true, le-leb}
use lib.Dec.{eqb, leb}
use lib.ListN.{length}
use Rattle.paper.specs.Refusals.{none}
use Rattle.messages.specs.declared.Ready.{Ready}
use Rattle.states.specs.Table.{next as next_state, place_of, from}
use Rattle.house.specs.declared.Contact.{Contact}
use Rattle.framing.specs.Frame.{Frame, timed_frame, timed_frames}
use Rattle.framing.proofs.Timed.{timed-contacts}
use Rattle.touch.specs.Touch.{Touch}
use Rattle.machine.specs.Table.{Table, contacts, resting, count_active}
use Rattle.machine.specs.Rules.{Rules}
use Rattle.machine.specs.Conforms.{every, distinct, legal, stays, table_after, conforms}
use Rattle.machine.specs.Held.{is_held, nobody, is_hover, opening}
use Rattle.machine.specs.Machine.{Machine, running_with, injected, ignored, Counts, count_of, plus, verdict, run_machine, run_counts}
use Rattle.machine.specs.Machine as machine
use Rattle.machine.proofs.Table.{resting-state, resting-count}
use Rattle.machine.proofs.Conforms.{every-same, every_true}
use Rattle.machine.proofs.Machine.{injected-machine}
use Rattle.channel.specs.Marks.{off, mark}
use Rattle.contacts.specs.Touch.{touch_view, touch_rules}
use Rattle.stream.specs.Stream.{Stream}
use Rattle.stream.specs.Set.{Happening, InSet, frames_log, log_of, log}
use Rattle.stream.proofs.Set.{once-the-set-is-empty-a-hovering-frame-opens}
use Rattle.receiver.specs.Receive.{rules_of, machine_of, fresh, untimed, touched, answer_of}
use Rattle.receiver.specs.History.{next, after, table_of, touch_in, frames_of, frames_taken, dismiss_in, dismissal_of, touch_profile, stream_of}
use Rattle.receiver.specs.declared.Receiver.{Receiver}
use Rattle.receiver.specs.declared.Answer.{Answer}
use Rattle.receiver.proofs.Weight.{after-count}
use Rattle.receiver.proofs.Became.{Became, became, refused, settles, touches, dismisses}
use Rattle.receiver.proofs.Streaming.{given_by, givens, stream-next, log-by}
use Rattle.receiver.proofs.Histories.{running-means-an-empty-set, every-id-has-a-mark, the-set-is-the-sentence}
use Rattle.demands.specs.Histories.{Call, Calls, History, last, accepted}
use Rattle.demands.specs.Hovering.{happened_by, happened, SetOf, AllHaveLeft, OnlyHovers, IsHeard, HeardAgain, HoveringHands}
use Rattle.demands.proofs.Histories.{sent_by, Allowed, call-receiver, call-answer, call-frames, sent, sent-bytes, calls_last, calls-kept}

-- ---- what happened by calls is what happened in their history

call-happened : (r : Receiver) (c : Call) → Allowed r c → happened_by r c ≡ log_of touch_profile (stream_of r) (given_by r (sent_by c))
unfolding happened_by accepted frames_taken
call-happened r c k =
    ap (λ (a : Answer). frames_log touch_view (rules_of r) (machine_of r) (cond (eqb a.refusal none) (frames_of (touch_in r c.message)) [])
    ++ cond (eqb a.refusal none) (dismissal_of (dismiss_in r c.message)) []) (call-answer r c k)
    ∙ sym (log-by r (sent_by c))

calls-happened : (r : Receiver) (cs : List Call) → Calls r cs → happened r cs ≡ log touch_profile (stream_of r) (givens r (sent cs))
unfolding Calls happened log givens
calls-happened r [] k = refl
calls-happened r (c ∷ cs) k =
    let x = sent_by c in
    let w =
    calls-happened c.receiver cs k.1
    ∙ (ap (λ (q : Receiver). log touch_profile (stream_of q) (givens q (sent cs))) (call-receiver r c k.0)
    ∙ ap (λ (s : Stream Ready). log touch_profile s (givens (next r x) (sent cs))) (stream-next r x)) in
    λ i. call-happened r c k.0 i ++ w i

-- ---- the set

module _ (h : List Call) (k : History h) where
  left_by : last fresh h ≡ after fresh (sent h)
  left_by = calls_last fresh h k.calls

  running-empty : off (last fresh h).ignoring ≡ true → (last fresh h).held ≡ nobody
  running-empty =
      subst (λ (r : Receiver). off r.ignoring ≡ true → r.held ≡ nobody) (sym left_by) (running-means-an-empty-set (sent h) (sent-bytes h k.bytes))

  all-marked : length (last fresh h).held ≡ contacts
  all-marked = ap (λ (r : Receiver). length r.held) left_by ∙ every-id-has-a-mark (sent h) (sent-bytes h k.bytes)

  set-of : (id : ℕ) → id < contacts → SetOf h id
  set-of id l =
      let a = the-set-is-the-sentence id l (sent h) (sent-bytes h k.bytes) in
      let e = ap (λ (r : Receiver). is_held r.held id) left_by in
      let z = calls-happened fresh h k.calls in
      record { only = λ i. subst (InSet touch_view id) (sym z) (a.0 (sym e ∙ i)); all = λ i. e ∙ a.1 (subst (InSet touch_view id) z i) }

  -- once all have left no mark is set
  none_in : AllHaveLeft h → (id : ℕ) → id < contacts → is_held (last fresh h).held id ≡ false
  none_in gone id l = go (is_held (last fresh h).held id) refl
    where
      go : (b : Bool) → is_held (last fresh h).held id ≡ b → b ≡ false
      go true e = absurd (gone id l ((set-of id l).only e))
      go false e = refl

-- ---- a frame that only hovers, where every contact is out of range

hover-legal : (c : Contact) → is_hover touch_view c ≡ true → legal touch_view next_state resting c ≡ true
unfolding next_state place_of from
hover-legal c e =
    let z : c.flags ≡ 0x0A = eqb-true _ _ e in
    rw (z, resting-state c.id)

-- 0x0A is no lift, so that its position is free
hover-stays : (c : Contact) → is_hover touch_view c ≡ true → stays touch_view resting c ≡ true
hover-stays c e =
    let z : c.flags ≡ 0x0A = eqb-true _ _ e in
    rw z

module _ (most : ℕ) (cs : List Contact) (h : every (is_hover touch_view) cs ≡ true) where
  all-legal : every (legal touch_view next_state resting) cs ≡ true
  all-legal = every-same (is_hover touch_view) (legal touch_view next_state resting) (λ c. true) hover-legal cs h ∙ every_true cs

  all_stay : every (stays touch_view resting) cs ≡ true
  all_stay = every-same (is_hover touch_view) (stays touch_view resting) (λ c. true) hover-stays cs h ∙ every_true cs

  -- no contact is active after it but its own
  few-active : length cs ≤ most → leb (count_active (table_after touch_view next_state resting cs).states) most ≡ true
  few-active l =
      le-leb (count_active (table_after touch_view next_state resting cs).states) most (omega (arith, after-count (touch_rules most) resting cs, resting-count))

  hovers-conform : distinct touch_view cs ≡ true → length cs ≤ most → conforms touch_view (touch_rules most) resting cs ≡ true
  unfolding conforms
  hovers-conform d l = rw (d, all-legal, all_stay, every_true cs, few-active l)

-- "An opening frame is judged as if running"
opened-injected : (rules : Rules Contact) (m : Machine) (cs : List Contact) → opening touch_view m.held cs ≡ true → conforms touch_view rules m.table cs ≡ true
    → verdict touch_view rules m cs ≡ injected
unfolding verdict
opened-injected rules m cs o c = rw (o, c) (go m.running)
  where
    go : (b : Bool) → cond (cond b true true) injected ignored ≡ injected
    go true = refl
    go false = refl

-- ---- .. alone in a message, which finds the receiver ignoring

-- what the receiver q and the answer a of such a message are
record Heard (q : Receiver) (a : Answer) : Type 0 where
  injected : a.injected ≡ 1
  running : off q.ignoring ≡ true
  empty : q.held ≡ nobody

module _ (r : Receiver) (f : Frame Contact) (i : off r.ignoring ≡ false) (v : verdict touch_view (rules_of r) (machine_of r) f.contacts ≡ injected) where
  -- its offset is not looked at
  timed-injected : verdict touch_view (rules_of r) (machine_of r) (timed_frame (untimed r) f).contacts ≡ injected
  timed-injected = ap (verdict touch_view (rules_of r) (machine_of r)) (timed-contacts (untimed r) f) ∙ v

  alone-counted : run_counts touch_view (rules_of r) (machine_of r) (timed_frames (untimed r) (f ∷ [])) ≡ count_of injected
  unfolding run_counts timed_frames
  alone-counted = ap (λ w. plus (count_of w) machine.none) timed-injected

  alone-left : run_machine touch_view (rules_of r) (machine_of r) (timed_frames (untimed r) (f ∷ []))
      ≡ running_with (table_after touch_view next_state (table_of r) (timed_frame (untimed r) f).contacts)
  unfolding run_machine timed_frames
  alone-left =
      let t = table_after touch_view next_state (table_of r) (timed_frame (untimed r) f).contacts in
      injected-machine touch_view (rules_of r) (machine_of r) (timed_frame (untimed r) f) timed-injected
      ∙ ap (λ b. record { table = t; running = true; held = cond b r.held nobody }) i

  touch-heard : (m : Touch) → m.frames ≡ f ∷ [] → Heard (touched r m).receiver (answer_of (touched r m))
  unfolding touched
  touch-heard m e =
      let counts = ap (λ (fs : List (Frame Contact)). run_counts touch_view (rules_of r) (machine_of r) (timed_frames (untimed r) fs)) e ∙ alone-counted in
      let left = ap (λ (fs : List (Frame Contact)). run_machine touch_view (rules_of r) (machine_of r) (timed_frames (untimed r) fs)) e ∙ alone-left in
      record {
        injected = ap (λ (k : Counts). k.injected) counts;
        running = ap (λ (n : Machine). off (mark (not n.running))) left;
        empty = ap (λ (n : Machine). n.held) left;
      }

  -- no other message has a frame
  became-heard : (l : List ℕ) {q : Receiver} {s : List ℕ} {a : Answer} {fs : List (Frame Contact)} {ds : List (Happening Contact)} → Became r l q s a fs ds → fs ≡ f ∷ [] → Heard q a
  became-heard l (refused n) e = absurd (omega (arith, ap length e))
  became-heard l (settles s o) e = absurd (omega (arith, ap length e))
  became-heard l (touches m t o b) e = touch-heard m e
  became-heard l (dismisses id t o b) e = absurd (omega (arith, ap length e))

  call-heard : (c : Call) → Allowed r c → accepted r c ≡ f ∷ [] → IsHeard c
  call-heard c k e =
      let a = became-heard c.message (became r (sent_by c)) (call-frames r c k ∙ e) in
      record {
        injected = ap (λ (x : Answer). x.injected) (call-answer r c k) ∙ a.injected;
        running = ap (λ (q : Receiver). off q.ignoring) (call-receiver r c k) ∙ a.running;
        empty = ap (λ (q : Receiver). q.held) (call-receiver r c k) ∙ a.empty;
      }

-- ---- once every id has left

module _ (h : List Call) (k : History h) (gone : AllHaveLeft h) where
  hovers-open : (f : Frame Contact) → OnlyHovers f → opening touch_view (last fresh h).held f.contacts ≡ true
  hovers-open f o =
      let e = o.contacts in
      ap (opening touch_view (last fresh h).held) e
      ∙ once-the-set-is-empty-a-hovering-frame-opens touch_view (machine_of (last fresh h)) o.first o.others (all-marked h k) (none_in h k gone)
      (sym (ap (every (is_hover touch_view)) e) ∙ o.hover)

  hovers-injected : off (last fresh h).ignoring ≡ false → (f : Frame Contact) → OnlyHovers f → distinct touch_view f.contacts ≡ true → length f.contacts ≤ (last fresh h).settings.most
      → verdict touch_view (rules_of (last fresh h)) (machine_of (last fresh h)) f.contacts ≡ injected
  hovers-injected i f o d l =
      let r = last fresh h in
      let c = ap (λ (t : Table). conforms touch_view (rules_of r) t f.contacts) ((calls-kept h k).stream.ignoring i) ∙ hovers-conform r.settings.most f.contacts o.hover d l in
      opened-injected (rules_of r) (machine_of r) f.contacts (hovers-open f o) c

  heard-again : HeardAgain (last fresh h)
  unfolding Calls run_machine timed_frames
  heard-again =
      record {
        opens = hovers-open;
        heard = λ i c a f e o d l. call-heard (last fresh h) f i (hovers-injected i f o d l) c a.0 e;
      }

pub hovering-hands : HoveringHands
hovering-hands = record { empty = running-empty; set = set-of; again = heard-again }

-- Touch messages: their frames counted, and carried out where there is room.
-- Assumes nothing.
use Prim.Native.Nat.{ℕ, ◌+◌, ◌*◌, ◌/◌, ◌≤◌, ◌<◌}
use mathlib.Core.Path.{◌≡◌, refl, sym, ap, ◌∙◌}
use mathlib.Core.Bool.{Bool, true, false, cond, not}
use mathlib.Core.List.{List, []}
use native.Mathlib.Omega.{arith}
use borrow.Author.Tests.{leb-true}
use lib.ListN.{length}
use Rattle.std.specs.Prelude.{Ok, Err}
use Rattle.std.specs.Borrow.{Bor}
use Rattle.paper.specs.Refusals.{none, no_room, number}
use Rattle.paper.specs.declared.Refusal.{Refusal}
use Rattle.paper.specs.declared.Milliseconds.{Milliseconds}
use Rattle.digits.specs.Digits.{Bytes}
use Rattle.slices.specs.Writing.{laid}
use Rattle.formats.specs.Format.{Got, got, bad, read_series}
use Rattle.formats.proofs.Laws.{never}
use Rattle.fields.specs.Integers.{taken}
use Rattle.house.specs.declared.Contact.{Contact}
use Rattle.framing.specs.Frame.{Frame, timed_frames, begun_by}
use Rattle.touch.specs.Limits.{touch_limits}
use Rattle.framing.proofs.Reading.{frames-freed}
use Rattle.framing.specs.Format.{body_head_of, summary}
use Rattle.touch.specs.Touch.{Touch, body, contact}
use Rattle.framing.specs.declared.BodyHead.{BodyHead}
use Rattle.touch.proofs.Passes.{frame_by}
use Rattle.touch_frames.specs.Checks.{Checks}
use Rattle.touch_frames.proofs.Passes.{Checked, checked}
use Rattle.machine.specs.Table.{contacts}
use Rattle.machine.specs.Machine.{Machine, Arrays, arrays_in, Counts, run_bytes}
use Rattle.contacts.specs.Touch.{touch_view}
use Rattle.contacts.specs.Ruling.{Counted}
use Rattle.runs.specs.Runs.{Runs}
use Rattle.runs.specs.declared.Run.{Run}
use Rattle.runs.proofs.Running.{Ran, ran-as-the-machine-says}
use Rattle.receiver.specs.declared.Receiver.{Receiver}
use Rattle.receiver.specs.declared.Answer.{Answer}
use Rattle.receiver.specs.declared.Received.{Received}
use Rattle.receiver.specs.Receive.{rules_of, machine_of, arrays_of, of_parts, untimed, judged, touched, refusal, answer_of, time_by}
use Rattle.channel.specs.Marks.{off, mark}
use Rattle.receiver.specs.Events.{Gives, touch_effect}
use Rattle.touch_events.specs.Carrying.{answer_of_run, ample, Tallies, Carried, Carries, Settles}
use Rattle.receiver.proofs.Weight.{touch-small}
use Rattle.receiver.proofs.Answering.{gives-refused, gives_none, gives-done, gives_same}

-- ---- the frames as a run takes them, and as the receiver's definition does

frames-same : (r : Receiver) (un : Bool) → un ≡ untimed r → (fs : List (Frame Contact)) → timed_frames un fs ≡ timed_frames (untimed r) fs
frames-same r un e fs = ap (λ (b : Bool). timed_frames b fs) e

bytes_of : (r : Receiver) (m : Touch) → (touched r m).bytes ≡ run_bytes touch_view (rules_of r) (machine_of r) (timed_frames (untimed r) m.frames)
unfolding touched
bytes_of r m = refl

quotient : (k n : ℕ) → 21 * k ≡ n → k ≡ n / 21
quotient k n e = omega arith

module _ (r : Receiver) (l : List ℕ) (un : Bool) (eu : un ≡ untimed r) (active : ℕ) (a : Counted active r.states) (hl : Bytes l) (run : Run) (u : Arrays) (before after : List ℕ) where
  ran-of : {wet : Bool} (n : ℕ) → Runs n l un wet (off r.ignoring) r.settings.most active run (arrays_of r) u before after
      → (fs : List (Frame Contact)) (rest : List ℕ) → read_series frame_by false n l ≡ got fs rest → Ran (rules_of r) (timed_frames un fs) wet (off r.ignoring) run (arrays_of r) u before after
  ran-of {wet} n x fs rest e = ran-as-the-machine-says n l un wet (off r.ignoring) r.settings.most active run (arrays_of r) u before after x hl fs rest e a

  -- ---- counted

  pub tallies : (n : ℕ) → Runs n l un false (off r.ignoring) r.settings.most active run (arrays_of r) u before after → Tallies r n l run.records before after
  tallies n x =
      record {
        small = x.small;
        count = λ fs rest e. (ran-of n x fs rest e).records ∙ ap (λ (gs : List (Frame Contact)). length (run_bytes touch_view (rules_of r) (machine_of r) gs)) (frames-same r un eu fs);
        kept = λ fs rest e. (ran-of n x fs rest e).kept refl;
      }

  -- ---- carried out

  module _ (h : BodyHead) (x : Runs h.frames l un true (off r.ignoring) r.settings.most active run (arrays_of r) u before after)
      (b i : ℕ) (time : Milliseconds) (answer : Answer)
      (eb : b ≡ begun_by 1 r.begun h.frames) (ei : i ≡ mark (not run.running)) (et : time ≡ cond un (record { 0 = 0 }) h.time) (ea : answer ≡ answer_of_run run time) where
    -- the receiver after it
    abbrev after_run : Receiver
    after_run = of_parts (record { ready = r.ready; begun = b; ignoring = i; settings = r.settings }) u

    module _ (m : Touch) (rest : List ℕ) (eh : h ≡ body_head_of m) (e : read_series frame_by false h.frames l ≡ got m.frames rest) where
      ran : Ran (rules_of r) (timed_frames (untimed r) m.frames) true (off r.ignoring) run (arrays_of r) u before after
      ran = rw (frames-same r un eu m.frames) at (ran-of h.frames x m.frames rest e)

      receiver-is : after_run ≡ (touched r m).receiver
      unfolding touched
      receiver-is =
          let eb' = eb ∙ ap (λ (g : BodyHead). begun_by 1 r.begun g.frames) eh in
          let ei' = ei ∙ ap (λ (k : Machine). mark (not k.running)) ran.machine in
          λ j. of_parts (record { ready = r.ready; begun = eb' j; ignoring = ei' j; settings = r.settings }) (arrays_in (ran.machine j))

      answer-is : answer ≡ answer_of (touched r m)
      unfolding touched
      answer-is =
          let et' = et ∙ ap (λ (g : BodyHead). time_by un g.time) eh ∙ ap (λ (y : Bool). time_by y m.time) eu in
          let k = ran.counts in
          let n = quotient run.records _ ran.records in
          ea
          ∙ (λ j. record {
            refusal = none;
            injected = ap (λ (y : Counts). y.injected) k j;
            ignored = ap (λ (y : Counts). y.ignored) k j;
            cancelled = ap (λ (y : Counts). y.cancelled) k j;
            time = et' j;
            records = n j;
          })

      carried : length (touched r m).bytes ≤ length before
          → Carried (touched r m) before (record { receiver = after_run; answer = answer }) after
      carried room =
          record {
            answer = λ j. record { receiver = receiver-is j; answer = answer-is j };
            output = rw (bytes_of r m) (ran.written refl (rw (bytes_of r m) at room));
          }

    pub carries : Carries r h l before (record { receiver = after_run; answer = answer }) after
    carries = record { whole = a.all; carried = carried }

-- ---- counted first

module _ (r : Receiver) (h : BodyHead) (l : List ℕ) (k : ℕ) (before mid : List ℕ) (t : Tallies r h.frames l k before mid) (q : Received) where
  pub settles-none : (n : ℕ) → n ≡ no_room → length mid < 21 * k → q ≡ record { receiver = r; answer = refusal n } → Settles r h l before q mid
  settles-none n f room a m rest eh e =
      let same = t.kept m.frames rest e in
      let w : length before < length (touched r m).bytes = rw (bytes_of r m) (omega (arith, room, t.count m.frames rest e, ap length same)) in
      rw same (gives_none r before q (got (touched r m) rest) (touched r m) rest refl w (rw f at a))

  pub settles-done : (after : List ℕ) → 21 * k ≤ length mid → Carries r h l mid q after → Settles r h l before q after
  settles-done after room y m rest eh e =
      let same = t.kept m.frames rest e in
      let w : length (touched r m).bytes ≤ length before = rw (bytes_of r m) (omega (arith, room, t.count m.frames rest e, ap length same)) in
      let d = y.carried m rest eh e (omega (arith, w, ap length same)) in
      gives-done r before q (got (touched r m) rest) (touched r m) rest refl after w d.answer (d.output ∙ ap (λ (s : List ℕ). laid s (touched r m).bytes) same)

-- ---- the whole body

module _ (r : Receiver) (b : List ℕ) (j : Bool) (ej : j ≡ judged r) (before : List ℕ) (q : Received) where
  pub touch-refused : (e : Refusal) (k : ℕ) → Checks false j b (Err e) → k ≡ number e → q ≡ record { receiver = r; answer = refusal k } → Gives r (touch_effect r b) before q before
  touch-refused e k c f a = go (body taken j b) refl c.same
    where
      go : (y : Got Touch) → body taken j b ≡ y → bad (number e) ≡ summary y → Gives r (touch_effect r b) before q before
      go (got m t) w s = never (number e) (body_head_of m) t s
      go (bad z) w s =
          let v : body taken (judged r) b ≡ bad z = rw ej at w in
          let n : number e ≡ z = cc in
          gives-refused r before q (touch_effect r b) z (rw v) (a ∙ ap (λ (y : ℕ). record { receiver = r; answer = refusal y }) (f ∙ n))

  module _ (h : BodyHead) (frames : Bor (List ℕ)) (c : Checks false j b (Ok (h, frames))) (after : List ℕ) where
    it : Checked false j b h frames.now
    it = checked false j b h frames c

    read : body taken (judged r) b ≡ got it.message []
    read = sym (ap (λ (y : Bool). body taken y b) ej) ∙ it.read

    effect_is : touch_effect r b ≡ got (touched r it.message) []
    effect_is = let v = read in rw v

    frames-are : read_series frame_by false h.frames frames.now ≡ got it.message.frames []
    frames-are = frames-freed taken touch_limits (contact taken) j h.frames frames.now it.message.frames [] it.frames

    pub touch-settled : Settles r h frames.now before q after → Gives r (touch_effect r b) before q after
    touch-settled s = gives_same r _ _ before q after effect_is (s it.message [] it.head frames-are)

    pub touch-ample : ample (length b) (length before) ≡ true → Carries r h frames.now before q after → Gives r (touch_effect r b) before q after
    touch-ample room y =
        let n : length b / 2 + contacts ≤ length before / 21 = leb-true _ _ room in
        let w : length (touched r it.message).bytes ≤ length before = omega (arith, n, touch-small r y.whole b it.message [] read) in
        let d = y.carried it.message [] it.head frames-are w in
        gives-done r before q (touch_effect r b) (touched r it.message) [] effect_is after w d.answer d.output

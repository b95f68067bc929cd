-- Demand 3 holds: calls that the contract allows are a history, and what they left in their outputs is what the history wrote.
-- Assumes nothing.
use Prim.Native.Nat.{ℕ, ◌*◌, ◌<◌}
use mathlib.Core.Path.{◌≡◌, refl, sym, ap, subst, ◌∙◌}
use mathlib.Core.Bool.{cond}
use mathlib.Core.List.{List, [], ◌∷◌, ◌++◌, map, append-nil}
use lib.Dec.{eqb}
use lib.ListN.{length, take, drop}
use lib.Seq.{take_at}
use Rattle.paper.specs.Refusals.{none}
use Rattle.digits.specs.Digits.{Bytes}
use Rattle.slices.specs.Writing.{laid}
use Rattle.house.specs.Fields.{record_bytes}
use Rattle.house.specs.declared.Contact.{Contact}
use Rattle.framing.specs.Frame.{Frame}
use Rattle.machine.specs.Table.{contacts, state_at, place_at, origin}
use Rattle.states.specs.Table.{out}
use Rattle.stream.specs.Path.{at}
use Rattle.stream.specs.Asked.{All}
use Rattle.receiver.specs.Receive.{fresh, Receives}
use Rattle.receiver.specs.History.{Sent, OfBytes, messages_of, next, answer_to, wrote, after, written, outcomes, Roomy, table_of, touch_in, frames_of, frames_taken, UnopenedAfter, Unopened, bytes_at, Silent, rested, records_in, path}
use Rattle.receiver.specs.declared.Receiver.{Receiver}
use Rattle.receiver.specs.declared.Answer.{Answer}
use Rattle.receiver.proofs.Records.{records-written}
use Rattle.receiver.proofs.Invariants.{Kept, history-kept}
use Rattle.receiver.proofs.Rested.{as-rested}
use Rattle.receiver.proofs.Histories.{a-step-of-the-contract-is-a-step-of-a-history, each-contact's-records-are-a-legal-path, after-a-cancelled-frame-nothing-until-an-opening-one, after-a-cancel-nothing-until-an-opening-frame, a-silent-receiver-passes-over-frames-that-do-not-open, a-receiver-at-rest-is-the-rested-one, a-rested-receiver-can-be-given-that-frame}
use Rattle.demands.specs.Histories.{Call, Calls, History, last, records_left, all_left, accepted, NoneOpens, LegalPath, Cancel, Silenced, NothingUntilAnOpeningFrame, AtRest, HaveRoom, outcome_of, AsRestedFromAnOpeningFrame, EveryHistory}

-- ---- a call is a step of a history

abbrev pub sent_by : Call → Sent
sent_by c = record { message = c.message; room = length c.before }

abbrev pub Allowed : Receiver → Call → Type 0
Allowed r c = Receives r c.message c.before c.receiver c.answer c.after

module _ (r : Receiver) (c : Call) (k : Allowed r c) where
  pub call_step : (c.receiver ≡ next r (sent_by c)) × (c.answer ≡ answer_to r (sent_by c)) × (c.after ≡ laid c.before (wrote r (sent_by c)))
  call_step = a-step-of-the-contract-is-a-step-of-a-history r c.message c.before c.receiver c.answer c.after k

  pub call-receiver : c.receiver ≡ next r (sent_by c)
  call-receiver = call_step.0

  pub call-answer : c.answer ≡ answer_to r (sent_by c)
  call-answer = call_step.1

  pub call-left : records_left c ≡ wrote r (sent_by c)
  unfolding records_left
  call-left =
      let s = wrote r (sent_by c) in
      (λ i. take (record_bytes * (call-answer i).records) (call_step.2 i))
      ∙ take_at s (drop (length s) c.before) (record_bytes * (answer_to r (sent_by c)).records) (sym (records-written r (sent_by c)))

  pub call-frames : frames_taken r (sent_by c) ≡ accepted r c
  unfolding frames_taken accepted
  call-frames = ap (λ (a : Answer). cond (eqb a.refusal none) (frames_of (touch_in r c.message)) []) (sym call-answer)

-- ---- calls are a history

abbrev pub sent : List Call → List Sent
sent [] = []
sent (c ∷ cs) = sent_by c ∷ sent cs

sent-messages : (cs : List Call) → messages_of (sent cs) ≡ map (λ (c : Call). c.message) cs
sent-messages [] = refl
sent-messages (c ∷ cs) = ap (λ (l : List (List ℕ)). c.message ∷ l) (sent-messages cs)

pub sent-bytes : (cs : List Call) → All (λ c. Bytes c.message) cs → OfBytes (sent cs)
sent-bytes [] b = tt
sent-bytes (c ∷ cs) b = (b.0, sent-bytes cs b.1)

pub calls_last : (r : Receiver) (cs : List Call) → Calls r cs → last r cs ≡ after r (sent cs)
unfolding Calls last after
calls_last r [] k = refl
calls_last r (c ∷ cs) k = calls_last c.receiver cs k.1 ∙ ap (λ (q : Receiver). after q (sent cs)) (call-receiver r c k.0)

pub calls-left : (r : Receiver) (cs : List Call) → Calls r cs → all_left cs ≡ written r (sent cs)
unfolding Calls all_left written
calls-left r [] k = refl
calls-left r (c ∷ cs) k =
    let w = calls-left c.receiver cs k.1 ∙ ap (λ (q : Receiver). written q (sent cs)) (call-receiver r c k.0) in
    λ i. call-left r c k.0 i ++ w i

calls-outcomes : (r : Receiver) (cs : List Call) → Calls r cs → map outcome_of cs ≡ outcomes r (sent cs)
unfolding Calls outcomes
calls-outcomes r [] k = refl
calls-outcomes r (c ∷ cs) k =
    let w = calls-outcomes c.receiver cs k.1 ∙ ap (λ (q : Receiver). outcomes q (sent cs)) (call-receiver r c k.0) in
    λ i. record { receiver = call-receiver r c k.0 i; answer = call-answer r c k.0 i; bytes = call-left r c k.0 i } ∷ w i

calls-roomy : (r : Receiver) (cs : List Call) → Calls r cs → HaveRoom cs → Roomy r (sent cs)
unfolding Calls Roomy
calls-roomy r [] k h = tt
calls-roomy r (c ∷ cs) k h = (
  λ e. h.0 (ap (λ (a : Answer). a.refusal) (call-answer r c k.0) ∙ e),
  subst (λ (q : Receiver). Roomy q (sent cs)) (call-receiver r c k.0) (calls-roomy c.receiver cs k.1 h.1),
)

calls-unopened : (r : Receiver) (cs : List Call) → Calls r cs → NoneOpens r cs → Unopened r (sent cs)
unfolding Calls NoneOpens Unopened
calls-unopened r [] k h = tt
calls-unopened r (c ∷ cs) k h = (
  subst (UnopenedAfter r []) (sym (call-frames r c k.0)) h.0,
  subst (λ (q : Receiver). Unopened q (sent cs)) (call-receiver r c k.0) (calls-unopened c.receiver cs k.1 h.1),
)

pub calls-kept : (h : List Call) → History h → Kept (last fresh h)
calls-kept h k = subst Kept (sym (calls_last fresh h k.calls)) (history-kept (sent h) (sent-bytes h k.bytes))

-- ---- the sentences

legal-path : (h : List Call) → History h → (id : ℕ) → id < contacts → LegalPath h id
legal-path h k id l =
    ap (λ (s : List ℕ). path id (records_in s) out origin) (calls-left fresh h k.calls)
    ∙ (each-contact's-records-are-a-legal-path id l (sent h) (sent-bytes h k.bytes)
    ∙ ap (λ (q : Receiver). at (state_at (table_of q) id) (place_at (table_of q) id)) (sym (calls_last fresh h k.calls)))

calls-silenced : (r : Receiver) (c : Call) (cs : List Call) → Calls r (c ∷ cs) → (fs : List (Frame Contact)) (f : Frame Contact) (gs : List (Frame Contact)) → Cancel r c fs f gs []
    → NoneOpens c.receiver cs → Silenced r c cs fs
unfolding Calls
calls-silenced r c cs k fs f gs e u =
    let fewer : fs ++ (f ∷ (gs ++ [])) ≡ fs ++ (f ∷ gs) = rw append-nil in
    let n = subst (λ (q : Receiver). Unopened q (sent cs)) (call-receiver r c k.0) (calls-unopened c.receiver cs k.1 u) in
    let o = after-a-cancel-nothing-until-an-opening-frame r (sent_by c) (sent cs) fs f gs (call-frames r c k.0 ∙ (e.frames ∙ fewer)) e.cancelled e.others n in
    let q = last r (c ∷ cs) in
    let s : Silent q = subst Silent (sym (calls_last r (c ∷ cs) k)) o.1 in
    record {
      records = calls-left r (c ∷ cs) k ∙ o.0;
      silent = s;
      until = λ d kd ds hs a v p w. call-left q d kd.0 ∙ a-silent-receiver-passes-over-frames-that-do-not-open q (sent_by d) ds hs s (call-frames q d kd.0 ∙ a) v p w;
    }

nothing-until-an-opening-frame : (r : Receiver) → NothingUntilAnOpeningFrame r
unfolding Calls
nothing-until-an-opening-frame r =
    record {
      within = λ c k fs f gs hs e q s.
          call-left r c k.0 ∙ (after-a-cancelled-frame-nothing-until-an-opening-one r (sent_by c) fs f gs hs (call-frames r c k.0 ∙ e.frames) e.cancelled e.others q s).0;
      after = calls-silenced r;
    }

as-rested-from-an-opening-frame : (r : Receiver) → Kept r → AsRestedFromAnOpeningFrame r
unfolding Calls
as-rested-from-an-opening-frame r kept =
    record {
      same = λ x y more others kx ky b fs f gs c o idle e hx hy.
          let q = rested r.settings in
          let z = sent-messages more ∙ (e ∙ sym (sent-messages others)) in
          let a = as-rested r kept (sent_by x) (sent_by y) b fs f gs c o idle (sent more) (sent others) z (calls-roomy r (x ∷ more) kx hx) (calls-roomy q (y ∷ others) ky hy) in
          record {
            receiver = call-receiver r x kx.0 ∙ (a.receiver ∙ sym (call-receiver q y ky.0));
            records = call-left r x kx.0 ∙ (a.bytes ∙ ap (λ (s : List ℕ). bytes_at r fs ++ s) (sym (call-left q y ky.0)));
            time = ap (λ (v : Answer). v.time) (call-answer r x kx.0) ∙ (a.time ∙ sym (ap (λ (v : Answer). v.time) (call-answer q y ky.0)));
            following =
                calls-outcomes x.receiver more kx.1
                ∙ (ap (λ (p : Receiver). outcomes p (sent more)) (call-receiver r x kx.0)
                ∙ (a.outcomes ∙ sym (calls-outcomes y.receiver others ky.1 ∙ ap (λ (p : Receiver). outcomes p (sent others)) (call-receiver q y ky.0))));
          };
      given = a-rested-receiver-can-be-given-that-frame r;
    }

at_rest : (h : List Call) → History h → AtRest (last fresh h) → last fresh h ≡ rested (last fresh h).settings
at_rest h k =
    subst (λ (r : Receiver). AtRest r → r ≡ rested r.settings) (sym (calls_last fresh h k.calls))
    (λ a. a-receiver-at-rest-is-the-rested-one (sent h) (sent-bytes h k.bytes) a.ready a.begun a.running a.idle)

pub every-history : EveryHistory
every-history =
    record {
      legal = legal-path;
      silent = λ h k. nothing-until-an-opening-frame (last fresh h);
      as_rested = λ h k. as-rested-from-an-opening-frame (last fresh h) (calls-kept h k);
      rest = at_rest;
    }

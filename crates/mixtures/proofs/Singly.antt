-- A batch that was accepted comes to the same as its messages in single calls: both are one history.
-- Assumes nothing.
use Prim.Native.Nat.{ℕ, ◌-◌, ◌*◌}
use mathlib.Core.Path.{◌≡◌, refl, sym, ap, ◌∙◌}
use mathlib.Core.List.{List, [], ◌∷◌, ◌++◌, map}
use native.Mathlib.Omega.{arith}
use lib.ListN.{length, drop, length-drop}
use Rattle.paper.specs.Refusals.{none}
use Rattle.slices.specs.Writing.{laid}
use Rattle.slices.proofs.Tails.{laid-length}
use Rattle.house.specs.Fields.{record_bytes}
use Rattle.receiver.specs.Receive.{Receives}
use Rattle.receiver.specs.History.{next, wrote, after, written}
use Rattle.receiver.specs.declared.Receiver.{Receiver}
use Rattle.receiver.specs.declared.Answer.{Answer}
use Rattle.receiver.proofs.Records.{records-written, wrote-room}
use Rattle.intake.specs.Feeding.{numbers_of, answers_to}
use Rattle.bursts.specs.Batch.{messages_in, singly, FeedsAll}
use Rattle.bursts.specs.Cutting.{BatchCall, AllowedAll}
use Rattle.bursts.proofs.Refusing.{accepted-batch}
use Rattle.demands.specs.Histories.{Call, Calls, all_left}
use Rattle.demands.proofs.Histories.{sent_by, sent, call_step, call-receiver, call-answer, calls_last, calls-left}
use Rattle.mixtures.specs.Singly.{HandedOn, all_answers, EntriesOf, SameSingly}

-- ---- the history of single calls

-- a call leaves as much output as it did not write to
left-long : (r : Receiver) (c : Call) → Receives r c.message c.before c.receiver c.answer c.after
    → length (drop (record_bytes * c.answer.records) c.after) ≡ length c.before - length (wrote r (sent_by c))
left-long r c k =
    let s = wrote r (sent_by c) in
    let n : record_bytes * c.answer.records ≡ length s = ap (λ (a : Answer). record_bytes * a.records) (call-answer r c k) ∙ records-written r (sent_by c) in
    let l : length c.after ≡ length c.before = ap length (call_step r c k).2 ∙ laid-length c.before s 0 (omega (arith, wrote-room r (sent_by c))) in
    length-drop (record_bytes * c.answer.records) c.after ∙ (λ i. l i - n i)

-- handed on, it is what feeding them singly means
calls-singly : (r : Receiver) (output : List ℕ) (cs : List Call) → Calls r cs → HandedOn output cs → sent cs ≡ singly r (map (λ (c : Call). c.message) cs) (length output)
unfolding Calls HandedOn singly
calls-singly r output [] k h = refl
calls-singly r output (c ∷ cs) k h =
    let ms : List (List ℕ) = map (λ (d : Call). d.message) cs in
    let x = sent_by c in
    let more : sent cs ≡ singly (next r x) ms (length c.before - length (wrote r x)) =
    calls-singly c.receiver _ cs k.1 h.1 ∙ (λ i. singly (call-receiver r c k.0 i) ms (left-long r c k.0 i)) in
    (λ i. x ∷ more i) ∙ ap (λ (l : List ℕ). singly r (c.message ∷ ms) (length l)) h.0

pub calls-answers : (r : Receiver) (cs : List Call) → Calls r cs → all_answers cs ≡ answers_to r (sent cs)
unfolding Calls all_answers answers_to
calls-answers r [] k = refl
calls-answers r (c ∷ cs) k =
    let more = calls-answers c.receiver cs k.1 ∙ ap (λ (q : Receiver). answers_to q (sent cs)) (call-receiver r c k.0) in
    λ i. numbers_of (call-answer r c k.0 i) ++ more i

pub sent-long : (cs : List Call) → length (sent cs) ≡ length cs
sent-long [] = refl
sent-long (c ∷ cs) = omega (arith, sent-long cs)

-- ---- the history of a batch

-- accepted, it was fed
accepted-fed : (r : Receiver) (b : BatchCall) → AllowedAll r b → b.batch.refusal ≡ none → FeedsAll r b.buffer b.receiver b.batch b.places b.answers b.before b.after
accepted-fed r b k e = k.fed (accepted-batch r b.buffer b.receiver b.batch b.places b.answers b.before b.after k e)

-- "The result equals feeding them singly, each given the output that is left."
pub a-batch-is-its-entries-fed-singly : (r : Receiver) (b : BatchCall) (cs : List Call) → EntriesOf r b cs → SameSingly r b cs
a-batch-is-its-entries-fed-singly r b cs k =
    let f = (accepted-fed r b k.batch k.accepted).fed in
    let same : sent cs ≡ singly r (messages_in b.buffer) (length b.before) =
    calls-singly r b.before cs k.calls k.handed_on ∙ ap (λ (ms : List (List ℕ)). singly r ms (length b.before)) k.messages in
    let left : all_left cs ≡ written r (singly r (messages_in b.buffer) (length b.before)) = calls-left r cs k.calls ∙ ap (written r) same in
    let answers : all_answers cs ≡ answers_to r (singly r (messages_in b.buffer) (length b.before)) = calls-answers r cs k.calls ∙ ap (answers_to r) same in
    record {
      receiver = f.receiver ∙ sym (calls_last r cs k.calls ∙ ap (after r) same);
      entries = f.entries ∙ (ap length (sym same) ∙ sent-long cs);
      records = f.records ∙ ap length (sym left);
      answers = f.answers ∙ ap (laid b.places) (sym answers);
      output = f.output ∙ ap (laid b.before) (sym left);
    }

-- For every batch there are single calls that come to the same: of each message that it fed one, and of a refused batch none.
-- Assumes nothing.
use Prim.Native.Nat.{ℕ, ◌*◌}
use mathlib.Core.Path.{◌≡◌, refl, sym, ap, ◌∙◌}
use mathlib.Core.List.{List, [], ◌∷◌, map, append-nil}
use native.Mathlib.Omega.{arith}
use lib.ListN.{length, take, drop}
use lib.Seq.{take_at}
use Rattle.paper.specs.Refusals.{none}
use Rattle.slices.specs.Writing.{laid}
use Rattle.house.specs.Fields.{record_bytes}
use Rattle.receiver.specs.History.{Sent, next, answer_to, wrote}
use Rattle.receiver.specs.declared.Receiver.{Receiver}
use Rattle.receiver.proofs.Histories.{a-step-of-a-history-is-a-step-of-the-contract}
use Rattle.intake.specs.Feeding.{answer_numbers}
use Rattle.intake.proofs.Taking.{answers-long}
use Rattle.bursts.specs.Batch.{messages_in, FeedsNone}
use Rattle.bursts.specs.Cutting.{BatchCall, AllowedAll, answers_of, records_of}
use Rattle.bursts.proofs.Refusing.{by-contract}
use Rattle.demands.specs.Histories.{Call, Calls, last, all_left}
use Rattle.demands.proofs.Histories.{sent}
use Rattle.mixtures.specs.Singly.{HandedOn, all_answers}
use Rattle.mixtures.specs.Mixtures.{Either, single, batch, Allowed, receiver_of, messages_of_either, answers_of_either, records_of_either}
use Rattle.mixtures.proofs.Singly.{calls-answers, sent-long, a-batch-is-its-entries-fed-singly}

-- ---- messages in single calls, each lent what the one before it left

abbrev made : Receiver → List ℕ → List ℕ → Call
made r m output =
    let x : Sent = record { message = m; room = length output } in
    record { message = m; before = output; receiver = next r x; answer = answer_to r x; after = laid output (wrote r x) }

abbrev output_after : Call → List ℕ
output_after c = drop (record_bytes * c.answer.records) c.after

abbrev made_all : Receiver → List (List ℕ) → List ℕ → List Call
made_all r [] output = []
made_all r (m ∷ ms) output = made r m output ∷ made_all (made r m output).receiver ms (output_after (made r m output))

made-calls : (r : Receiver) (ms : List (List ℕ)) (output : List ℕ) → Calls r (made_all r ms output)
unfolding Calls
made-calls r [] output = tt
made-calls r (m ∷ ms) output =
    (a-step-of-a-history-is-a-step-of-the-contract r m output, made-calls (made r m output).receiver ms (output_after (made r m output)))

made-handed-on : (r : Receiver) (ms : List (List ℕ)) (output : List ℕ) → HandedOn output (made_all r ms output)
unfolding HandedOn
made-handed-on r [] output = tt
made-handed-on r (m ∷ ms) output = (refl, made-handed-on (made r m output).receiver ms (output_after (made r m output)))

made-messages : (r : Receiver) (ms : List (List ℕ)) (output : List ℕ) → map (λ (c : Call). c.message) (made_all r ms output) ≡ ms
made-messages r [] output = refl
made-messages r (m ∷ ms) output = ap (λ (l : List (List ℕ)). m ∷ l) (made-messages (made r m output).receiver ms (output_after (made r m output)))

-- ---- single calls h that come to the same as a call of either kind

pub record Alike (r : Receiver) (e : Either) (h : List Call) : Type 0 where
  pub calls : Calls r h
  pub messages : map (λ (c : Call). c.message) h ≡ messages_of_either e
  pub receiver : last r h ≡ receiver_of e
  pub answers : all_answers h ≡ answers_of_either e
  pub records : all_left h ≡ records_of_either e

pub record Singles (r : Receiver) (e : Either) : Type 0 where
  pub calls : List Call
  pub alike : Alike r e calls

module _ (r : Receiver) (b : BatchCall) where
  fed-singles : AllowedAll r b → b.batch.refusal ≡ none → Singles r (batch b)
  unfolding answers_of records_of
  fed-singles k e =
      let ms = messages_in b.buffer in
      let cs = made_all r ms b.before in
      let calls = made-calls r ms b.before in
      let s =
      a-batch-is-its-entries-fed-singly r b cs (record { batch = k; accepted = e; calls = calls; handed_on = made-handed-on r ms b.before; messages = made-messages r ms b.before }) in
      let long : length (all_answers cs) ≡ answer_numbers * b.batch.entries = omega (arith, ap length (calls-answers r cs calls), answers-long r (sent cs), sent-long cs, s.entries) in
      record {
        calls = cs;
        alike = record {
          calls = calls;
          messages = rw e (made-messages r ms b.before);
          receiver = sym s.receiver;
          answers = sym (ap (take (answer_numbers * b.batch.entries)) s.answers ∙ take_at (all_answers cs) (drop (length (all_answers cs)) b.places) _ long);
          records = sym (ap (take (record_bytes * b.batch.records)) s.output ∙ take_at (all_left cs) (drop (length (all_left cs)) b.before) _ (sym s.records));
        };
      }

  refused-singles : FeedsNone r b.receiver b.batch b.places b.answers b.before b.after → Singles r (batch b)
  unfolding Calls last all_answers all_left answers_of records_of
  refused-singles k =
      record {
        calls = [];
        alike = record {
          calls = tt;
          messages = rw k.batch;
          receiver = sym k.receiver;
          answers = rw k.batch;
          records = rw k.batch;
        };
      }

  batch-singles : AllowedAll r b → Singles r (batch b)
  batch-singles k =
      by-contract r b.buffer b.receiver b.batch b.places b.answers b.before b.after k (λ _ f. fed-singles k f.refusal) refused-singles

pub singles : (r : Receiver) (e : Either) → Allowed r e → Singles r e
unfolding Calls last all_answers all_left
singles r (single c) k = record { calls = c ∷ []; alike = record { calls = (k, tt); messages = refl; receiver = refl; answers = append-nil _; records = append-nil _ } }
singles r (batch b) k = batch-singles r b k

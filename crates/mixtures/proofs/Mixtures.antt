-- A mixture of batches and single calls is a history of single calls, so that demand 3 holds of it.
-- Assumes nothing.
use Prim.Native.Nat.{ℕ, ◌<◌}
use mathlib.Core.Path.{◌≡◌, refl, sym, ap, subst, ◌∙◌}
use mathlib.Core.List.{List, [], ◌∷◌, ◌++◌, map, map-append, append_assoc}
use Rattle.digits.specs.Digits.{Bytes}
use Rattle.states.specs.Table.{out}
use Rattle.machine.specs.Table.{contacts, state_at, place_at, origin}
use Rattle.stream.specs.Path.{at}
use Rattle.stream.specs.Asked.{All}
use Rattle.receiver.specs.Receive.{fresh}
use Rattle.receiver.specs.History.{table_of, rested, records_in, path}
use Rattle.receiver.specs.declared.Receiver.{Receiver}
use Rattle.intake.specs.Feeding.{numbers_of}
use Rattle.demands.specs.Histories.{Call, Calls, last, records_left, all_left, NothingUntilAnOpeningFrame, AsRestedFromAnOpeningFrame, AtRest}
use Rattle.demands.proofs.Histories.{every-history}
use Rattle.mixtures.specs.Singly.{all_answers}
use Rattle.mixtures.specs.Mixtures.{Either, receiver_of, Mixed, last_of, messages_fed, answers_given, records_written, SameAs, InSingleCalls, Mixture, LegalPathIn, AsHistory, EveryMixture}
use Rattle.mixtures.proofs.Making.{Alike, singles}

-- ---- single calls after single calls

calls-append : (r : Receiver) (h k : List Call) → Calls r h → Calls (last r h) k → Calls r (h ++ k)
unfolding Calls last
calls-append r [] k a b = b
calls-append r (c ∷ h) k a b = (a.0, calls-append c.receiver h k a.1 b)

last-append : (r : Receiver) (h k : List Call) → last r (h ++ k) ≡ last (last r h) k
unfolding last
last-append r [] k = refl
last-append r (c ∷ h) k = last-append c.receiver h k

answers-append : (h k : List Call) → all_answers (h ++ k) ≡ all_answers h ++ all_answers k
unfolding all_answers
answers-append [] k = refl
answers-append (c ∷ h) k = ap (λ (l : List ℕ). numbers_of c.answer ++ l) (answers-append h k)

left-append : (h k : List Call) → all_left (h ++ k) ≡ all_left h ++ all_left k
unfolding all_left
left-append [] k = refl
left-append (c ∷ h) k = ap (λ (l : List ℕ). records_left c ++ l) (left-append h k) ∙ sym (append_assoc (records_left c) (all_left h) (all_left k))

-- ---- the single calls of a mixture

joined : (r : Receiver) (e : Either) (es : List Either) (h k : List Call) → Alike r e h → SameAs (receiver_of e) es k → SameAs r (e ∷ es) (h ++ k)
unfolding last_of messages_fed answers_given records_written
joined r e es h k a s =
    record {
      calls = calls-append r h k a.calls (subst (λ (q : Receiver). Calls q k) (sym a.receiver) s.calls);
      messages = map-append _ h k ∙ (λ i. a.messages i ++ s.messages i);
      receiver = last-append r h k ∙ (ap (λ (q : Receiver). last q k) a.receiver ∙ s.receiver);
      answers = answers-append h k ∙ (λ i. a.answers i ++ s.answers i);
      records = left-append h k ∙ (λ i. a.records i ++ s.records i);
    }

pub a-mixture-is-single-calls : (r : Receiver) (es : List Either) → Mixed r es → InSingleCalls r es
unfolding Mixed Calls last all_answers all_left last_of messages_fed answers_given records_written
a-mixture-is-single-calls r [] k = record { calls = []; same = record { calls = tt; messages = refl; receiver = refl; answers = refl; records = refl } }
a-mixture-is-single-calls r (e ∷ es) k =
    let a = singles r e k.0 in
    let s = a-mixture-is-single-calls (receiver_of e) es k.1 in
    record { calls = a.calls ++ s.calls; same = joined r e es a.calls s.calls a.alike s.same }

calls-bytes : (h : List Call) → All Bytes (map (λ (c : Call). c.message) h) → All (λ c. Bytes c.message) h
calls-bytes [] b = tt
calls-bytes (c ∷ h) b = (b.0, calls-bytes h b.1)

pub a-mixture-is-a-history : (es : List Either) → Mixture es → AsHistory es
a-mixture-is-a-history es m =
    let t = a-mixture-is-single-calls fresh es m.calls in
    record {
      calls = t.calls;
      history = record { calls = t.same.calls; bytes = calls-bytes t.calls (subst (All Bytes) (sym t.same.messages) m.bytes) };
      same = t.same;
    }

-- ---- THE DEMAND

legal-path : (es : List Either) → Mixture es → (id : ℕ) → id < contacts → LegalPathIn es id
legal-path es m id l =
    let h = a-mixture-is-a-history es m in
    ap (λ (s : List ℕ). path id (records_in s) out origin) (sym h.same.records)
    ∙ (every-history.legal h.calls h.history id l
    ∙ ap (λ (q : Receiver). at (state_at (table_of q) id) (place_at (table_of q) id)) h.same.receiver)

pub every-mixture : EveryMixture
every-mixture =
    record {
      following = a-mixture-is-single-calls;
      history = a-mixture-is-a-history;
      legal = legal-path;
      silent = λ es m. let h = a-mixture-is-a-history es m in subst NothingUntilAnOpeningFrame h.same.receiver (every-history.silent h.calls h.history);
      as_rested = λ es m. let h = a-mixture-is-a-history es m in subst AsRestedFromAnOpeningFrame h.same.receiver (every-history.as_rested h.calls h.history);
      rest = λ es m. let h = a-mixture-is-a-history es m in subst (λ (r : Receiver). AtRest r → r ≡ rested r.settings) h.same.receiver (every-history.rest h.calls h.history);
    }

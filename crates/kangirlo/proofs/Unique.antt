-- Two outcomes that the contract of a call allows are equal: in its answer, in the receiver that it was lent, in the list of answers and in the output.
-- Assumes nothing.
use Prim.Native.Nat.{ℕ}
use mathlib.Core.Path.{◌≡◌}
use mathlib.Core.Bool.{true, false}
use mathlib.Core.List.{List}
use Rattle.paper.specs.declared.Milliseconds.{Milliseconds}
use Rattle.slices.specs.Writing.{Draft, Writes}
use Rattle.slices.specs.declared.Written.{Written}
use Rattle.messages.specs.Bodies.{server_ready_draft, client_ready_draft, suspend_draft, resume_draft, dismiss_draft}
use Rattle.message_writers.proofs.Unique.{writers-unique}
use Rattle.reading.specs.Plain.{ReadsPlainly, ReadsStrictly}
use Rattle.reading.specs.declared.PlainAnswer.{PlainAnswer}
use Rattle.reading.proofs.Unique.{read-unique}
use Rattle.writing.specs.TouchDraft.{touch_draft}
use Rattle.writing.proofs.Unique.{write-touch-unique}
use Rattle.machine.specs.Machine.{Arrays}
use Rattle.receiver.specs.Receive.{fresh, Receives}
use Rattle.receiver.specs.declared.Receiver.{Receiver}
use Rattle.receiver.specs.declared.Answer.{Answer}
use Rattle.receiver.specs.declared.Turn.{Turn}
use Rattle.receiver.specs.Receive.{of_parts}
use Rattle.receiver.proofs.Unique.{Same, fresh-unique, receive-unique, receive-parts-unique}
use Rattle.bursts.specs.Batch.{ReceivesAll}
use Rattle.bursts.specs.declared.Batch.{Batch}
use Rattle.bursts.specs.declared.BatchTurn.{BatchTurn}
use Rattle.bursts.proofs.Unique.{Same as SameBatch, receive-all-unique, receive-all-parts-unique}
use Rattle.flat_records.specs.Flat.{flat}
use Rattle.flat_records.specs.declared.FlatRecord.{FlatRecord}
use Rattle.flat_records.proofs.Unique.{read-flat-unique}

-- what a writer of the draft d answers and leaves
abbrev One : Draft → Type 0
One d = (v w : Written) (before after after' : List ℕ) → Writes d v before after → Writes d w before after' → (v ≡ w) × (after ≡ after')

pub record Calls : Type 0 where
  pub kangirlo-fresh : (a b : Receiver) → a ≡ fresh → b ≡ fresh → a ≡ b
  pub kangirlo-receive : (r : Receiver) (message before : List ℕ) (p q : Receiver) (a b : Answer) (s t : List ℕ)
      → Receives r message before p a s → Receives r message before q b t → Same p q a b s t
  pub kangirlo-receive-all : (r : Receiver) (buffer : List ℕ) (p q : Receiver) (b c : Batch) (a₀ a a' o₀ o o' : List ℕ)
      → ReceivesAll r buffer p b a₀ a o₀ o → ReceivesAll r buffer q c a₀ a' o₀ o' → SameBatch p q b c a a' o o'
  pub kangirlo-receive-parts : (r : Receiver) (message before : List ℕ) (m n : Turn) (t u : Arrays) (s k : List ℕ)
      → Receives r message before (of_parts m.marks t) m.answer s → Receives r message before (of_parts n.marks u) n.answer k → (m ≡ n) × (t ≡ u) × (s ≡ k)
  pub kangirlo-receive-all-parts : (r : Receiver) (buffer : List ℕ) (m n : BatchTurn) (t u : Arrays) (a₀ a a' o₀ o o' : List ℕ)
      → ReceivesAll r buffer (of_parts m.marks t) m.batch a₀ a o₀ o → ReceivesAll r buffer (of_parts n.marks u) n.batch a₀ a' o₀ o'
      → (m ≡ n) × (t ≡ u) × (a ≡ a') × (o ≡ o')
  pub kangirlo-plain : (message : List ℕ) (a b : PlainAnswer) (before after after' : List ℕ)
      → ReadsPlainly message a before after → ReadsPlainly message b before after' → (a ≡ b) × (after ≡ after')
  pub kangirlo-plain-strictly : (message : List ℕ) (a b : PlainAnswer) (before after after' : List ℕ)
      → ReadsStrictly message a before after → ReadsStrictly message b before after' → (a ≡ b) × (after ≡ after')
  pub kangirlo-write-server-ready : (version : ℕ) → One (server_ready_draft version)
  pub kangirlo-write-client-ready : (flags version most : ℕ) → One (client_ready_draft (record { flags = flags; version = version; most = most }))
  pub kangirlo-write-touch : (time : Milliseconds) (records : List ℕ) → One (touch_draft time records)
  pub kangirlo-write-suspend : One suspend_draft
  pub kangirlo-write-resume : One resume_draft
  pub kangirlo-write-dismiss : (id : ℕ) → One (dismiss_draft id)
  pub kangirlo-read-record : (records : List ℕ) (a b : FlatRecord) → a ≡ flat records → b ≡ flat records → a ≡ b

pub calls-unique : Calls
calls-unique =
    record {
      kangirlo-fresh = fresh-unique;
      kangirlo-receive = receive-unique;
      kangirlo-receive-all = receive-all-unique;
      kangirlo-receive-parts = receive-parts-unique;
      kangirlo-receive-all-parts = receive-all-parts-unique;
      kangirlo-plain = read-unique false;
      kangirlo-plain-strictly = read-unique true;
      kangirlo-write-server-ready = writers-unique.write-server-ready;
      kangirlo-write-client-ready = λ flags version most. writers-unique.write-client-ready (record { flags = flags; version = version; most = most });
      kangirlo-write-touch = write-touch-unique;
      kangirlo-write-suspend = writers-unique.write-suspend;
      kangirlo-write-resume = writers-unique.write-resume;
      kangirlo-write-dismiss = writers-unique.write-dismiss;
      kangirlo-read-record = read-flat-unique;
    }

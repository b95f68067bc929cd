-- #104, of the receiver, over the calls: a touch message that the plain reading accepts, however long its integers are, does to a receiver what the
-- shortest message of the same meaning does.
use Rattle.std.specs.Prelude.{ℕ, ◌≤◌, ◌≡◌, List, length, take}
use Rattle.paper.specs.Refusals.{none}
use Rattle.digits.specs.Digits.{Bytes}
use Rattle.slices.specs.Writing.{Writes}
use Rattle.slices.specs.declared.Written.{Written}
use Rattle.reading.specs.Plain.{ReadsPlainly}
use Rattle.reading.specs.declared.PlainAnswer.{PlainAnswer}
use Rattle.writing.specs.TouchDraft.{touch_draft}
use Rattle.receiver.specs.Receive.{Receives}
use Rattle.receiver.specs.declared.Receiver.{Receiver}
use Rattle.receiver.specs.declared.Answer.{Answer}
use Rattle.demands.specs.RoundTrip.{records_read}

-- a message is read by itself and written back; the message and what was written, each given to the same receiver with the same output
pub record PaddingChangesNothing : Type 0 where
  pub same : (message : List ℕ) (p : PlainAnswer) (before after : List ℕ) (w : Written) (out₀ out₁ : List ℕ) → Bytes message
      → ReadsPlainly message p before after → p.refusal ≡ none
      → Writes (touch_draft p.time (records_read p after)) w out₀ out₁ → length message ≤ length out₀
      → (r q q' : Receiver) (a a' : Answer) (output left left' : List ℕ)
      → Receives r message output q a left → Receives r (take w.bytes out₁) output q' a' left'
      → (q ≡ q') × (a ≡ a') × (left ≡ left')

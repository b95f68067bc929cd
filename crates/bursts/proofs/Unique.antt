-- Two outcomes that the contract allows are equal, in the receiver, the answer, the list of answers and the output.
-- Assumes nothing.
use Prim.Native.Nat.{ℕ}
use mathlib.Core.Path.{◌≡◌, refl, sym, ap, ◌∙◌}
use mathlib.Core.Bool.{Bool, true, false}
use mathlib.Core.List.{List}
use lib.ListN.{length}
use Rattle.machine.specs.Machine.{Arrays}
use Rattle.receiver.specs.declared.Receiver.{Receiver}
use Rattle.receiver.specs.Receive.{arrays_of, marks_of, of_parts}
use Rattle.intake.specs.declared.Fed.{Fed}
use Rattle.intake.proofs.Unique.{feeds-unique}
use Rattle.bursts.specs.declared.Batch.{Batch}
use Rattle.bursts.specs.declared.BatchTurn.{BatchTurn}
use Rattle.bursts.specs.Batch.{batched, FeedsAll, FeedsNone, ReceivesAll}

pub record Same (p q : Receiver) (b c : Batch) (a a' o o' : List ℕ) : Type 0 where
  pub receiver : p ≡ q
  pub batch : b ≡ c
  pub answers : a ≡ a'
  pub output : o ≡ o'

module _ (r : Receiver) (buffer : List ℕ) (p q : Receiver) (b c : Batch) (a₀ a a' o₀ o o' : List ℕ) where
  all-unique : FeedsAll r buffer p b a₀ a o₀ o → FeedsAll r buffer q c a₀ a' o₀ o' → Same p q b c a a' o o'
  all-unique x y =
      let u = feeds-unique r _ _ _ a₀ a a' o₀ o o' x.fed y.fed in
      record {
        receiver = ap (λ (f : Fed). f.receiver) u.0;
        batch = λ i. record { refusal = (x.refusal ∙ sym y.refusal) i; entries = (u.0 i).entries; records = (u.0 i).records };
        answers = u.1;
        output = u.2;
      }

  none-unique : FeedsNone r p b a₀ a o₀ o → FeedsNone r q c a₀ a' o₀ o' → Same p q b c a a' o o'
  none-unique x y =
      record {
        receiver = x.receiver ∙ sym y.receiver;
        batch = x.batch ∙ sym y.batch;
        answers = x.answers ∙ sym y.answers;
        output = x.output ∙ sym y.output;
      }

  pub receive-all-unique : ReceivesAll r buffer p b a₀ a o₀ o → ReceivesAll r buffer q c a₀ a' o₀ o' → Same p q b c a a' o o'
  receive-all-unique x y = go (batched buffer (length a₀)) refl
    where
      go : (w : Bool) → batched buffer (length a₀) ≡ w → Same p q b c a a' o o'
      go true e = all-unique (x.fed e) (y.fed e)
      go false e = none-unique (x.refused e) (y.refused e)

-- .. and where the receiver is lent in parts, in its marks, its contacts and its set
pub receive-all-parts-unique : (r : Receiver) (buffer : List ℕ) (m n : BatchTurn) (t u : Arrays) (a₀ a a' o₀ o o' : List ℕ)
    → ReceivesAll r buffer (of_parts m.marks t) m.batch a₀ a o₀ o → ReceivesAll r buffer (of_parts n.marks u) n.batch a₀ a' o₀ o'
    → (m ≡ n) × (t ≡ u) × (a ≡ a') × (o ≡ o')
receive-all-parts-unique r buffer m n t u a₀ a a' o₀ o o' x y =
    let e = receive-all-unique r buffer _ _ _ _ a₀ a a' o₀ o o' x y in (
      λ i. record {
        marks = marks_of (e.receiver i);
        batch = e.batch i;
      },
      λ i. arrays_of (e.receiver i),
      e.answers,
      e.output,
    )

-- Two outcomes that the contract allows are equal, in the answer, the list of answers and the output.
-- Assumes nothing.
use Prim.Native.Nat.{ℕ}
use mathlib.Core.Path.{◌≡◌, sym, ◌∙◌}
use mathlib.Core.List.{List}
use native.Mathlib.Omega.{arith}
use Rattle.machine.specs.Machine.{Arrays}
use Rattle.receiver.specs.declared.Receiver.{Receiver}
use Rattle.receiver.specs.Receive.{arrays_of, marks_of}
use Rattle.receiver.specs.History.{Sent}
use Rattle.intake.specs.Feeding.{Feeds, TakesEntries, fed_of}
use Rattle.intake.specs.declared.Fed.{Fed}
use Rattle.intake.specs.declared.FedParts.{FedParts}

pub feeds-unique : (r : Receiver) (h : List Sent) (f g : Fed) (a₀ a b o₀ o p : List ℕ) → Feeds r h f a₀ a o₀ o → Feeds r h g a₀ b o₀ p → (f ≡ g) × (a ≡ b) × (o ≡ p)
feeds-unique r h f g a₀ a b o₀ o p x y =
    let n : f.records ≡ g.records = omega (arith, x.records, y.records) in (
      λ i. record {
        receiver = (x.receiver ∙ sym y.receiver) i;
        entries = (x.entries ∙ sym y.entries) i;
        used = (x.used ∙ sym y.used) i;
        records = n i;
      },
      x.answers ∙ sym y.answers,
      x.output ∙ sym y.output,
    )

pub take-entries-unique : (least : ℕ) (r : Receiver) (file : List ℕ) (f g : Fed) (a₀ a b o₀ o p : List ℕ) → TakesEntries least r file f a₀ a o₀ o → TakesEntries least r file g a₀ b o₀ p
    → (f ≡ g) × (a ≡ b) × (o ≡ p)
take-entries-unique least r file f g a₀ a b o₀ o p x y = feeds-unique r _ f g a₀ a b o₀ o p x.fed y.fed

-- .. and where the receiver is lent in parts, in its marks, its contacts and its set
pub feed-parts-unique : (least : ℕ) (r : Receiver) (file : List ℕ) (f g : FedParts) (t u : Arrays) (a₀ a b o₀ o p : List ℕ) → TakesEntries least r file (fed_of f t) a₀ a o₀ o
    → TakesEntries least r file (fed_of g u) a₀ b o₀ p → (f ≡ g) × (t ≡ u) × (a ≡ b) × (o ≡ p)
feed-parts-unique least r file f g t u a₀ a b o₀ o p x y =
    let e = take-entries-unique least r file (fed_of f t) (fed_of g u) a₀ a b o₀ o p x y in (
      λ i. record {
        marks = marks_of (e.0 i).receiver;
        entries = (e.0 i).entries;
        used = (e.0 i).used;
        records = (e.0 i).records;
      },
      λ i. arrays_of (e.0 i).receiver,
      e.1,
      e.2,
    )

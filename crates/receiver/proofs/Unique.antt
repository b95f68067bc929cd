-- Two outcomes that the contract allows are equal, in receiver, answer and output.
-- Assumes nothing.
use Prim.Native.Nat.{ℕ}
use mathlib.Core.Path.{◌≡◌, sym, ◌∙◌}
use mathlib.Core.List.{List}
use Rattle.machine.specs.Machine.{Arrays}
use Rattle.receiver.specs.declared.Receiver.{Receiver}
use Rattle.receiver.specs.declared.Answer.{Answer}
use Rattle.receiver.specs.declared.Marks.{Marks}
use Rattle.receiver.specs.declared.Turn.{Turn}
use Rattle.receiver.specs.Receive.{arrays_of, marks_of, of_parts, fresh, Receives}

pub fresh-unique : (a b : Receiver) → a ≡ fresh → b ≡ fresh → a ≡ b
fresh-unique a b p q = p ∙ sym q

-- the outcome of a message, for a receiver and an output that held `before`
pub record Same (p q : Receiver) (a b : Answer) (s t : List ℕ) : Type 0 where
  pub receiver : p ≡ q
  pub answer : a ≡ b
  pub output : s ≡ t

pub receive-unique : (r : Receiver) (message before : List ℕ) (p q : Receiver) (a b : Answer) (s t : List ℕ) → Receives r message before p a s → Receives r message before q b t
    → Same p q a b s t
receive-unique r message before p q a b s t x y =
    record { receiver = x.kept ∙ sym y.kept; answer = x.answered ∙ sym y.answered; output = x.output ∙ sym y.output }

-- .. and where it is lent in parts, in its marks and in its arrays
pub receive-parts-unique : (r : Receiver) (message before : List ℕ) (m n : Turn) (t u : Arrays) (s k : List ℕ) → Receives r message before (of_parts m.marks t) m.answer s
    → Receives r message before (of_parts n.marks u) n.answer k → (m ≡ n) × (t ≡ u) × (s ≡ k)
receive-parts-unique r message before m n t u s k x y =
    let e = receive-unique r message before _ _ _ _ s k x y in (
      λ i. record {
        marks = marks_of (e.receiver i);
        answer = e.answer i;
      },
      λ i. arrays_of (e.receiver i),
      e.output,
    )

pub marks-of-unique : (r : Receiver) (m n : Marks) → m ≡ marks_of r → n ≡ marks_of r → m ≡ n
marks-of-unique r m n p q = p ∙ sym q

pub of-parts-unique : (m : Marks) (t : Arrays) (a b : Receiver) → a ≡ of_parts m t → b ≡ of_parts m t → a ≡ b
of-parts-unique m t a b p q = p ∙ sym q

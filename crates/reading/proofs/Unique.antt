-- Two outcomes that the contract of the plain reading, or of the strict one, allows are equal, in the answer and in the output.
-- Assumes nothing.
use Prim.Native.Nat.{ℕ}
use mathlib.Core.Path.{◌≡◌, sym, ◌∙◌}
use mathlib.Core.Bool.{Bool}
use mathlib.Core.List.{List}
use Rattle.reading.specs.Plain.{ReadsBy}
use Rattle.reading.specs.declared.PlainAnswer.{PlainAnswer}

pub read-unique : (strictly : Bool) (l : List ℕ) (a b : PlainAnswer) (before after after' : List ℕ) → ReadsBy strictly l a before after → ReadsBy strictly l b before after' → (a ≡ b) × (after ≡ after')
read-unique strictly l a b before after after' p q = (p.answer ∙ sym q.answer, p.output ∙ sym q.output)

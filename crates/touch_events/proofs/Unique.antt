-- Two outcomes that the contract of a touch message's body allows are equal: the marks, the answer, the arrays and the output.
-- Assumes nothing.
use Prim.Native.Nat.{ℕ}
use mathlib.Core.Path.{◌≡◌, sym, ◌∙◌}
use mathlib.Core.List.{List}
use Rattle.machine.specs.Machine.{Arrays}
use Rattle.receiver.specs.declared.Receiver.{Receiver}
use Rattle.receiver.specs.declared.Turn.{Turn}
use Rattle.receiver.specs.Receive.{arrays_of, marks_of}
use Rattle.receiver.specs.Events.{turned, touch_effect, Gives}

pub receive-touch-unique : (r : Receiver) (body before : List ℕ) (m n : Turn) (t u : Arrays) (s k : List ℕ) → Gives r (touch_effect r body) before (turned m t) s
    → Gives r (touch_effect r body) before (turned n u) k → (m ≡ n) × (t ≡ u) × (s ≡ k)
receive-touch-unique r body before m n t u s k x y =
    let e = x.kept ∙ sym y.kept in
    let a = x.answered ∙ sym y.answered in
    (λ i. record { marks = marks_of (e i); answer = a i }, λ i. arrays_of (e i), x.output ∙ sym y.output)

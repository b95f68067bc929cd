-- Two outcomes that the contract allows are equal, in what was received and in the output.
-- Assumes nothing.
use Prim.Native.Nat.{ℕ}
use mathlib.Core.Path.{◌≡◌}
use mathlib.Core.List.{List}
use Rattle.receiver.specs.Receive.{Receives}
use Rattle.receiver.specs.declared.Receiver.{Receiver}
use Rattle.receiver.specs.declared.Received.{Received}
use Rattle.receiver.proofs.Unique.{receive-unique}

pub receive-lent-unique : (r : Receiver) (message before : List ℕ) (x y : Received) (s t : List ℕ)
    → Receives r message before x.receiver x.answer s → Receives r message before y.receiver y.answer t → (x ≡ y) × (s ≡ t)
receive-lent-unique r message before x y s t p q =
    let e = receive-unique r message before x.receiver y.receiver x.answer y.answer s t p q in
    ((λ i. record { receiver = e.receiver i; answer = e.answer i }), e.output)

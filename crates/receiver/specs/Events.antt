-- What is answered and left for an effect, and the effect of each of the three bodies.
use Rattle.std.specs.Prelude.{ℕ, ◌≡◌, List, length}
use Rattle.paper.specs.Refusals.{trailing}
use Rattle.slices.specs.Writing.{given, left}
use Rattle.formats.specs.Format.{Got, got, and_then, whole, byte}
use Rattle.fields.specs.Integers.{taken}
use Rattle.messages.specs.Bodies.{ready}
use Rattle.touch.specs.Touch.{body}
use Rattle.machine.specs.Machine.{Arrays}
use Rattle.receiver.specs.declared.Receiver.{Receiver}
use Rattle.receiver.specs.declared.Received.{Received}
use Rattle.receiver.specs.declared.Turn.{Turn}
use Rattle.receiver.specs.Receive.{Effect, of_parts, judged, settled, touched, dismissed_by, draft_of, receiver_after, answer_after}

-- a receiver in parts after a message
abbrev pub turned : Turn → Arrays → Received
turned n a = record { receiver = of_parts n.marks a; answer = n.answer }

-- ---- the answer for an effect, or for the refusal in its place

pub record Gives (r : Receiver) (x : Got Effect) (before : List ℕ) (q : Received) (after : List ℕ) : Type 0 where
  pub kept : q.receiver ≡ receiver_after r x (length before)
  pub answered : q.answer ≡ answer_after x (length before)
  pub output : after ≡ left before (given (length before) (draft_of x))

-- the three bodies
abbrev pub ready_effect : Receiver → List ℕ → Got Effect
ready_effect r b = and_then (whole ready trailing b) (λ s t. got (settled r s) t)

abbrev pub touch_effect : Receiver → List ℕ → Got Effect
touch_effect r b = and_then (body taken (judged r) b) (λ m t. got (touched r m) t)

abbrev pub dismiss_effect : Receiver → List ℕ → Got Effect
dismiss_effect r b = and_then (whole byte trailing b) (λ id t. got (dismissed_by r id) t)

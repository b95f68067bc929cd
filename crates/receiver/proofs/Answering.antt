-- What is answered and left of an effect: with room for its bytes, without it, and of a refusal.
-- Assumes nothing.
use Prim.Native.Nat.{ℕ, ◌≤◌, ◌<◌}
use mathlib.Core.Path.{◌≡◌, refl, sym, ap, ◌∙◌}
use mathlib.Core.List.{List}
use borrow.Author.Tests.{le-leb, lt-leb}
use lib.ListN.{length}
use Rattle.paper.specs.Refusals.{no_room}
use Rattle.slices.specs.Writing.{laid, given, left}
use Rattle.formats.specs.Format.{Got, got, bad}
use Rattle.machine.specs.Machine.{Arrays}
use Rattle.receiver.specs.declared.Receiver.{Receiver}
use Rattle.receiver.specs.declared.Received.{Received}
use Rattle.receiver.specs.declared.Turn.{Turn}
use Rattle.receiver.specs.Receive.{Effect, refusal, draft_of, answer_of, receiver_after, answer_after, effect, Receives}
use Rattle.receiver.specs.Events.{turned, Gives}

module _ (r : Receiver) (before : List ℕ) (q : Received) where
  pub gives-refused : (x : Got Effect) (n : ℕ) → x ≡ bad n → q ≡ record { receiver = r; answer = refusal n } → Gives r x before q before
  unfolding receiver_after answer_after given
  gives-refused x n e a = rw (e, a) (record { kept = refl; answered = refl; output = refl })

  module _ (x : Got Effect) (e : Effect) (t : List ℕ) (h : x ≡ got e t) where
    pub gives_none : length before < length e.bytes → q ≡ record { receiver = r; answer = refusal no_room } → Gives r x before q before
    unfolding receiver_after answer_after given
    gives_none room a =
        let b = lt-leb (length e.bytes) (length before) room in
        rw (h, a) (record { kept = rw b; answered = rw b; output = rw b })

    pub gives-done : (after : List ℕ) → length e.bytes ≤ length before → q ≡ record { receiver = e.receiver; answer = answer_of e } → after ≡ laid before e.bytes → Gives r x before q after
    unfolding receiver_after answer_after given
    gives-done after room a o =
        let b = le-leb (length e.bytes) (length before) room in
        rw (h, a) (record { kept = rw b; answered = rw b; output = rw b o })

-- of the effect that a message has
pub gives-receives : (r : Receiver) (message before : List ℕ) (x : Got Effect) (q : Received) (after : List ℕ) → effect r message ≡ x → Gives r x before q after
    → Receives r message before q.receiver q.answer after
gives-receives r message before x q after e g =
    record {
      kept = g.kept ∙ ap (λ (y : Got Effect). receiver_after r y (length before)) (sym e);
      answered = g.answered ∙ ap (λ (y : Got Effect). answer_after y (length before)) (sym e);
      output = g.output ∙ ap (λ (y : Got Effect). left before (given (length before) (draft_of y))) (sym e);
    }

pub gives_same : (r : Receiver) (x y : Got Effect) (before : List ℕ) (q : Received) (after : List ℕ) → x ≡ y → Gives r y before q after → Gives r x before q after
gives_same r x y before q after e g = rw e g

-- an answer of the parts is an answer of the receiver that they are
pub turned_same : (n m : Turn) (t : Arrays) → n ≡ m → turned n t ≡ turned m t
turned_same n m t e = ap (λ (x : Turn). turned x t) e

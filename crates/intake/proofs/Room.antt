-- Where each entry finds 48 KiB of output, none is refused for lack of room, and the answers are those of document 01's bench program, which
-- lends each entry 48 KiB.
-- Assumes nothing.
use Prim.Native.Nat.{ℕ, zero, suc, ◌+◌, ◌-◌, ◌≤◌}
use mathlib.Core.Path.{◌≡◌, refl, sym, ap, ◌∙◌}
use mathlib.Core.List.{List, [], ◌∷◌, ◌++◌, map}
use native.Mathlib.Omega.{arith}
use lib.ListN.{length, drop}
use Rattle.machine.specs.Table.{contacts}
use Rattle.receiver.specs.Limits.{most_output}
use Rattle.receiver.specs.History.{Sent, messages_of, next, answer_to, wrote, after, written, Outcome, outcomes, Roomy}
use Rattle.receiver.specs.declared.Receiver.{Receiver}
use Rattle.receiver.proofs.Records.{has_room, next-long}
use Rattle.receiver.proofs.Rested.{same-outcomes}
use Rattle.intake.specs.Feeding.{next_in, sent_from, fed_from, numbers_of, answers_to}
use Rattle.intake.proofs.Taking.{next-room, by_front}

-- ---- none is refused for lack of room

pub no-entry-is-refused-for-lack-of-room : (least : ℕ) → most_output ≤ least → (k : ℕ) (r : Receiver) → length r.states ≡ contacts → (file : List ℕ) (room : ℕ) → Roomy r (fed_from least k r file room)
unfolding fed_from Roomy
no-entry-is-refused-for-lack-of-room least h zero r s file room = tt
no-entry-is-refused-for-lack-of-room least h (suc k) r s file room =
    by_front (Roomy r) (next_in least file room) _ tt λ n e.
    let x = sent_from n file room in (
      has_room r s x (omega (arith, next-room least file room n e)),
      no-entry-is-refused-for-lack-of-room least h k (next r x) (next-long r s x) (drop (n + 2) file) (room - length (wrote r x)),
    )

-- ---- "lending 48 KiB of output for each entry"

-- the same messages, each lent so much
abbrev lent_to : ℕ → Sent → Sent
lent_to room x = record { message = x.message; room = room }

abbrev pub lent : ℕ → List Sent → List Sent
lent room h = map (lent_to room) h

lent-messages : (room : ℕ) (h : List Sent) → messages_of h ≡ messages_of (lent room h)
lent-messages room [] = refl
lent-messages room (x ∷ h) = ap (λ (l : List (List ℕ)). x.message ∷ l) (lent-messages room h)

lent-roomy : (r : Receiver) → length r.states ≡ contacts → (h : List Sent) → Roomy r (lent most_output h)
unfolding Roomy
lent-roomy r s [] = tt
lent-roomy r s (x ∷ h) =
    let y = lent_to most_output x in
    (has_room r s y (omega arith), lent-roomy (next r y) (next-long r s y) h)

-- answers are of what each message comes to
abbrev numbers_in : List Outcome → List ℕ
numbers_in [] = []
numbers_in (o ∷ os) = numbers_of o.answer ++ numbers_in os

answers-in : (r : Receiver) (h : List Sent) → answers_to r h ≡ numbers_in (outcomes r h)
unfolding answers_to outcomes
answers-in r [] = refl
answers-in r (x ∷ h) = ap (λ (l : List ℕ). numbers_of (answer_to r x) ++ l) (answers-in (next r x) h)

pub record AsLent (r : Receiver) (h k : List Sent) : Type 0 where
  pub answers : answers_to r h ≡ answers_to r k
  pub written : written r h ≡ written r k
  pub after : after r h ≡ after r k

pub the-answers-are-those-of-48-KiB-lent-to-each : (least : ℕ) → most_output ≤ least → (k : ℕ) (r : Receiver) → length r.states ≡ contacts → (file : List ℕ) (room : ℕ)
    → let h : List Sent = fed_from least k r file room in AsLent r h (lent most_output h)
the-answers-are-those-of-48-KiB-lent-to-each least m k r s file room =
    let h : List Sent = fed_from least k r file room in
    let q = same-outcomes r h (lent most_output h) (lent-messages most_output h) (no-entry-is-refused-for-lack-of-room least m k r s file room) (lent-roomy r s h) in
    record { answers = answers-in r h ∙ (ap numbers_in q.outcomes ∙ sym (answers-in r (lent most_output h))); written = q.written; after = q.after }

-- Messages fed singly, each given the output that is left: the history that the loop over a buffer's entries feeds, and its parts.
-- Assumes nothing.
use Rattle.std.specs.Prelude.{Option, Some, None}
use Prim.Native.Nat.{ℕ, zero, suc, ◌+◌, ◌-◌, ◌≤◌}
use mathlib.Core.Path.{◌≡◌, refl, sym, ap, ◌∙◌}
use mathlib.Core.List.{List, [], ◌∷◌, ◌++◌, append_assoc}
use native.Mathlib.Nat.{sub-zero}
use native.Mathlib.Omega.{arith}
use borrow.Author.Tests.{le-leb}
use lib.ListN.{length, drop, length-append, length-map}
use Rattle.entries.specs.Entries.{front_of}
use Rattle.receiver.specs.History.{Sent, messages_of, next, answer_to, wrote, after, written}
use Rattle.receiver.specs.declared.Receiver.{Receiver}
use Rattle.intake.specs.Feeding.{next_in, sent_from, fed_from, numbers_of, answers_to}
use Rattle.intake.proofs.Taking.{fed-none, fed-more, fed-room}
use Rattle.bursts.specs.Batch.{messages_in, singly}
use Rattle.bursts.proofs.Entries.{in-front, messages-end, messages-more, behind}

-- ---- the history

-- it has these messages
pub singly-messages : (r : Receiver) (ms : List (List ℕ)) (room : ℕ) → messages_of (singly r ms room) ≡ ms
unfolding singly
singly-messages r [] room = refl
singly-messages r (m ∷ ms) room =
    let x : Sent = record { message = m; room = room } in
    ap (λ (l : List (List ℕ)). m ∷ l) (singly-messages (next r x) ms (room - length (wrote r x)))

pub singly-length : (r : Receiver) (ms : List (List ℕ)) (room : ℕ) → length (singly r ms room) ≡ length ms
singly-length r ms room = sym (length-map (singly r ms room) (λ (x : Sent). x.message)) ∙ ap length (singly-messages r ms room)

-- ---- with a place for each answer, the entries of a buffer are fed singly

any-room : (l : List ℕ) (room : ℕ) (f : Option ℕ) → front_of l ≡ f → next_in 0 l room ≡ f
any-room l room f e = rw (le-leb 0 room (omega arith)) e

fed-ended : (places : ℕ) (r : Receiver) (l : List ℕ) (room : ℕ) → front_of l ≡ None → fed_from 0 places r l room ≡ singly r (messages_in l) room
unfolding singly
fed-ended places r l room e = fed-none 0 places r l room (any-room l room None e) ∙ sym (ap (λ (ms : List (List ℕ)). singly r ms room) (messages-end l e))

pub fed-singly : (places : ℕ) (r : Receiver) (l : List ℕ) (room : ℕ) → length (messages_in l) ≤ places → fed_from 0 places r l room ≡ singly r (messages_in l) room
unfolding singly
fed-singly zero r l room h = in-front l (fed-ended zero r l room) λ n e. absurd (omega (arith, h, (behind l n e).entries))
fed-singly (suc k) r l room h =
    in-front l (fed-ended (suc k) r l room) λ n e.
    let x : Sent = sent_from n l room in
    let more = fed-singly k (next r x) (drop (n + 2) l) (room - length (wrote r x)) (omega (arith, h, (behind l n e).entries)) in
    fed-more 0 k r l room n (any-room l room (Some n) e)
    ∙ (ap (λ (t : List Sent). x ∷ t) more ∙ sym (ap (λ (ms : List (List ℕ)). singly r ms room) (messages-more l n e)))

-- so what they write lies within the output
pub singly-room : (r : Receiver) (l : List ℕ) (room : ℕ) → length (written r (singly r (messages_in l) room)) ≤ room
singly-room r l room =
    let n = length (messages_in l) in
    omega (arith, fed-room 0 n r l room, ap (λ (h : List Sent). length (written r h)) (fed-singly n r l room (omega arith)))

-- ---- one history after another

pub after-append : (r : Receiver) (h g : List Sent) → after r (h ++ g) ≡ after (after r h) g
unfolding after
after-append r [] g = refl
after-append r (x ∷ h) g = after-append (next r x) h g

pub written-append : (r : Receiver) (h g : List Sent) → written r (h ++ g) ≡ written r h ++ written (after r h) g
unfolding after written
written-append r [] g = refl
written-append r (x ∷ h) g =
    ap (λ (l : List ℕ). wrote r x ++ l) (written-append (next r x) h g) ∙ sym (append_assoc (wrote r x) (written (next r x) h) (written (after (next r x) h) g))

pub answers-append : (r : Receiver) (h g : List Sent) → answers_to r (h ++ g) ≡ answers_to r h ++ answers_to (after r h) g
unfolding after answers_to
answers-append r [] g = refl
answers-append r (x ∷ h) g = ap (λ (l : List ℕ). numbers_of (answer_to r x) ++ l) (answers-append (next r x) h g)

-- messages after others are given the output that those left
pub singly-append : (r : Receiver) (ms ns : List (List ℕ)) (room : ℕ)
    → let h : List Sent = singly r ms room in singly r (ms ++ ns) room ≡ h ++ singly (after r h) ns (room - length (written r h))
unfolding singly after written
singly-append r [] ns room = ap (singly r ns) (sym (sub-zero room))
singly-append r (m ∷ ms) ns room =
    let x : Sent = record { message = m; room = room } in
    let q = next r x in
    let h : List Sent = singly q ms (room - length (wrote r x)) in
    let left : room - length (wrote r x) - length (written q h) ≡ room - length (wrote r x ++ written q h) = omega (arith, length-append (wrote r x) (written q h)) in
    ap (λ (t : List Sent). x ∷ t) (singly-append q ms ns (room - length (wrote r x)) ∙ ap (λ (n : ℕ). h ++ singly (after q h) ns n) left)

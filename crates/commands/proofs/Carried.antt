-- What is lent of an output, and what a call that was lent it did; how much a command writes.
-- Assumes nothing.
use Prim.Native.Nat.{ℕ, ◌≤◌}
use mathlib.Core.Path.{◌≡◌, refl, ap}
use mathlib.Core.Bool.{Bool, true, false, cond}
use mathlib.Core.List.{List, [], ◌∷◌, ◌++◌}
use native.Mathlib.Omega.{arith}
use lib.Dec.{leb}
use lib.ListN.{length, take, drop, length-append, take-append-drop}
use borrow.Author.Tests.{leb-true, ne_eqb}
use Rattle.slices.proofs.Laws.{given-few}
use Rattle.panels.specs.Panel.{Sending, Sends, ready_sending, touch_sending, dismiss_sending}
use Rattle.panels.specs.declared.Panel.{Panel}
use Rattle.sending.specs.declared.Outgoing.{Outgoing}
use Rattle.commands.specs.Commands.{Command, arrives, declares, touches, dismisses, unknown, kind_of, command_of, lent_of, Lends, Obeys}
use Rattle.commands.specs.declared.Obeyed.{Obeyed}

pub lent-inside : (room all n : ℕ) → n ≡ lent_of room all → n ≤ all
lent-inside room all n e = go (leb room all) refl e
  where
    go : (b : Bool) → leb room all ≡ b → n ≡ cond b room all → n ≤ all
    go true w e = let h : room ≤ all = leb-true _ _ w in omega arith
    go false w e = omega arith

-- the call was lent the first n bytes
pub lends : (n m : ℕ) (p : Panel) (s : Sending) (o : Outgoing) (r : Obeyed) (before lent : List ℕ) → n ≡ m
    → r ≡ record { panel = o.panel; known = true; written = o.written }
    → Sends p s o.panel o.written (take n before) lent → Lends m p s r before (lent ++ drop n before)
lends n m p s o r before lent e told sends =
    record { lent = lent; known = ap (λ (x : Obeyed). x.known) told; sends = rw (told, ← e) sends; output = rw e }

-- no byte, no command
pub command-none : (l : List ℕ) → length l ≡ 0 → command_of l ≡ unknown
unfolding command_of
command-none [] h = refl
command-none (x ∷ l) h = absurd (omega arith)

-- nor where the first byte is of none
pub command-other : (l : List ℕ) → (kind_of l ≡ 1 → ⊥) → (kind_of l ≡ 2 → ⊥) → (kind_of l ≡ 3 → ⊥) → (kind_of l ≡ 6 → ⊥) → command_of l ≡ unknown
unfolding command_of
command-other l h i j k = rw (ne_eqb _ _ h, ne_eqb _ _ i, ne_eqb _ _ j, ne_eqb _ _ k)

-- ---- no more is written than the output has

lent-few : (n : ℕ) (p : Panel) (s : Sending) (r : Obeyed) (before after : List ℕ) → Lends n p s r before after → r.written.bytes ≤ length before
lent-few n p s r before after h =
    let k = length-append (take n before) (drop n before) in
    let e = ap length (take-append-drop n before) in
    rw h.sends.writes.answer (omega (arith, k, e, given-few (length (take n before)) s.draft))

pub obeyed-few : (p : Panel) (c : Command) (r : Obeyed) (before after : List ℕ) → Obeys p c r before after → r.written.bytes ≤ length before
obeyed-few p (arrives message) r before after h = omega (arith, h.bytes)
obeyed-few p (declares room settings) r before after h = lent-few (lent_of room (length before)) p (ready_sending p settings) r before after h
obeyed-few p (touches room time records) r before after h = lent-few (lent_of room (length before)) p (touch_sending p time records) r before after h
obeyed-few p (dismisses room id) r before after h = lent-few (lent_of room (length before)) p (dismiss_sending p id) r before after h
obeyed-few p unknown r before after h = rw h.answer (omega arith)

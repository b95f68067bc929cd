-- What a call that sends left: it wrote a message and the panel that goes with it, or neither.
-- Assumes nothing.
use Prim.Native.Nat.{ℕ}
use mathlib.Core.Path.{◌≡◌, refl, ap, ◌∙◌}
use mathlib.Core.Bool.{true, false}
use mathlib.Core.List.{List}
use native.Mathlib.Omega.{arith}
use borrow.Author.Tests.{ne_eqb}
use lib.ListN.{length, take, drop}
use lib.Seq.{take_at}
use Rattle.paper.specs.Refusals.{none}
use Rattle.slices.specs.Writing.{Draft, bytes, refuse, given, answered, left}
use Rattle.slices.specs.declared.Written.{Written}
use Rattle.panels.specs.Panel.{Sending, Sends, panel_after}
use Rattle.panels.specs.declared.Panel.{Panel}
use Rattle.panels.proofs.Drafts.{Tame, Told, given-tame}
use Rattle.delivery.specs.Delivery.{wrote}
use Rattle.slices.proofs.Drafts.{given-bytes}

pub data Result (p : Panel) (s : Sending) (q : Panel) (w : Written) (after : List ℕ) : Type 0 where
  writes : (message : List ℕ) → s.draft ≡ bytes message → take w.bytes after ≡ message → q ≡ s.panel → wrote w ≡ true → Result p s q w after
  refuses : q ≡ p → wrote w ≡ false → Result p s q w after

pub result : (p : Panel) (s : Sending) (q : Panel) (w : Written) (before after : List ℕ) → Tame Told s.draft → Sends p s q w before after → Result p s q w after
result p s q w before after told h = go (given (length before) s.draft) refl (given-tame Told (length before) s.draft (λ z. omega (arith, z)) told)
  where
    go : (d : Draft) → given (length before) s.draft ≡ d → Tame Told d → Result p s q w after
    go (bytes m) e t =
        let a : w ≡ record { refusal = none; bytes = length m } = h.writes.answer ∙ ap answered e in
        let o : after ≡ left before (bytes m) = h.writes.output ∙ ap (left before) e in
        let n : take w.bytes after ≡ m = (λ i. take (a i).bytes (o i)) ∙ take_at m (drop (length m) before) (length m) refl in
        writes m (given-bytes (length before) s.draft m e) n (h.kept ∙ ap (panel_after p s.panel) e) (ap wrote a)
    go (refuse n) e t =
        let a : w ≡ record { refusal = n; bytes = 0 } = h.writes.answer ∙ ap answered e in
        refuses (h.kept ∙ ap (panel_after p s.panel) e) (ap wrote a ∙ ne_eqb n none t)

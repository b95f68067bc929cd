-- The line of an entry, and how long it is at most.
-- Assumes nothing.
use Prim.Native.Nat.{ℕ, ◌≤◌}
use mathlib.Core.Path.{◌≡◌, ap}
use mathlib.Core.Bool.{Bool, true, false, cond}
use mathlib.Core.List.{List, [], ◌∷◌}
use native.Mathlib.Omega.{arith}
use lib.ListN.{length}
use Rattle.messages.specs.Header.{most_bytes}
use Rattle.commands.specs.declared.Obeyed.{Obeyed}
use Rattle.lines.specs.Page.{text_of, written_text}
use Rattle.lines.proofs.Hexes.{written-short}
use Rattle.panel.specs.Line.{bad_word, said_of}

pub line_known : (r : Obeyed) (output : List ℕ) → r.known ≡ true → said_of r output ≡ written_text r.written output
unfolding said_of
line_known r output e = ap (λ (b : Bool). cond b (written_text r.written output) (bad_word ∷ [])) e

pub line-bad : (r : Obeyed) (output : List ℕ) → r.known ≡ false → said_of r output ≡ bad_word ∷ []
unfolding said_of
line-bad r output e = ap (λ (b : Bool). cond b (written_text r.written output) (bad_word ∷ [])) e

pub line-short : (r : Obeyed) (output : List ℕ) → r.written.bytes ≤ most_bytes → length (text_of (said_of r output)) ≤ 8235
unfolding said_of
line-short r output h = go r.known
  where
    go : (b : Bool) → length (text_of (cond b (written_text r.written output) (bad_word ∷ []))) ≤ 8235
    go true = omega (arith, written-short r.written output, h)
    go false = omega arith

-- The first-frame mark after a message with a frame.
-- Assumes nothing.
use mathlib.Core.Path.{◌≡◌}
use mathlib.Core.List.{List, ◌∷◌, ◌++◌}
use native.Mathlib.Omega.{arith}
use borrow.Author.Tests.{ne_eqb}
use lib.ListN.{length, length-append}
use Rattle.framing.specs.Frame.{begun_by}

pub begun-some : {M A : Type 0} (set begun : M) (l : List A) (a : A) (more : List A) → begun_by set begun (length (l ++ (a ∷ more))) ≡ set
begun-some set begun l a more = rw (ne_eqb (length (l ++ (a ∷ more))) 0 (λ e. omega (arith, length-append l (a ∷ more))))

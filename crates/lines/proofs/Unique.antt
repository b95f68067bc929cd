-- Two outcomes that the contracts allow are equal, in the place and in the page.
-- Assumes nothing.
use Prim.Native.Nat.{ℕ}
use mathlib.Core.Path.{◌≡◌, sym, ap, ◌∙◌}
use mathlib.Core.List.{List}
use Rattle.lines.specs.Page.{Placed, Added}

pub added-unique : (ss : List (List ℕ)) (at m n : ℕ) (before after after' : List ℕ) → Added ss at m before after → Added ss at n before after' → (m ≡ n) × (after ≡ after')
added-unique ss at m n b a a' h k =
    let e = h.all ∙ sym k.all in
    (ap (λ (p : Placed). p.at) e, ap (λ (p : Placed). p.page) e)

-- Two outcomes that the contract of a call that chooses allows are equal. (The contract of each call of this crate is an equation of its result.)
-- Assumes nothing.
use Prim.Native.Nat.{ℕ}
use mathlib.Core.Path.{◌≡◌, sym, ◌∙◌}
use mathlib.Core.List.{List}
use Rattle.house.specs.declared.Point.{Point}
use Rattle.presses.specs.declared.Hit.{Hit}
use Rattle.presses.specs.declared.Label.{Label}
use Rattle.presses.specs.declared.Chosen.{Chosen}
use Rattle.presses.specs.Choosing.{Chooses}

pub choose-unique : (hit : Point → Hit) (l : Label) (records : List ℕ) (x y : Chosen) (before after after' : List ℕ) → Chooses hit l records x before after → Chooses hit l records y before after'
    → (x ≡ y) × (after ≡ after')
choose-unique hit l records x y before after after' e f = (e.answer ∙ sym f.answer, e.output ∙ sym f.output)

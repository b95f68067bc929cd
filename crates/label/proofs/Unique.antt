-- Two outcomes that a contract of this crate allows are equal: in the answer, and in the list that was lent to be changed.
-- Assumes nothing.
use Prim.Native.Nat.{ℕ}
use mathlib.Core.Path.{◌≡◌, sym, ◌∙◌}
use mathlib.Core.Bool.{Bool}
use mathlib.Core.List.{List}
use Rattle.house.specs.declared.Point.{Point}
use Rattle.presses.specs.Buttons.{first_holding, SetsShown}
use Rattle.presses.specs.Choosing.{Chooses}
use Rattle.presses.specs.Turns.{chosen_as}
use Rattle.presses.specs.declared.Hit.{Hit}
use Rattle.presses.specs.declared.Label.{Label}
use Rattle.presses.specs.declared.Picked.{Picked}
use Rattle.presses.proofs.Unique.{choose-unique}
use Rattle.presses.specs.declared.Button.{Button}

pub button-at-unique : (bs : List Button) (p : Point) (a b : ℕ) → a ≡ first_holding bs p → b ≡ first_holding bs p → a ≡ b
button-at-unique bs p a b e f = e ∙ sym f

pub set-shown-unique : (bs : List Button) (place shown : ℕ) (a b : Bool) (after after' : List Button) → SetsShown bs place shown a after → SetsShown bs place shown b after' → (a ≡ b) × (after ≡ after')
set-shown-unique bs place shown a b after after' s t = (s.answer ∙ sym t.answer, s.list ∙ sym t.list)

-- of a label in parts: its states and presses, the answer, and the list of choices
pub choose-parts-unique : (hit : Point → Hit) (l : Label) (records s s' p p' : List ℕ) (r r' : Picked) (before after after' : List ℕ) → Chooses hit l records (chosen_as s p r) before after
    → Chooses hit l records (chosen_as s' p' r') before after' → (s ≡ s') × (p ≡ p') × (r ≡ r') × (after ≡ after')
choose-parts-unique hit l records s s' p p' r r' before after after' e f =
    let same = choose-unique hit l records (chosen_as s p r) (chosen_as s' p' r') before after after' e f in (
      (λ i. (same.0 i).label.states),
      (λ i. (same.0 i).label.pressed),
      (λ i. record { refusal = (same.0 i).refusal; count = (same.0 i).count }),
      same.1,
    )

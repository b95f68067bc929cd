-- Two outcomes that a contract of this crate allows are equal: in the answer, and in the list of choices.
-- Assumes nothing.
use Rattle.std.proofs.Common.{◌≡◌, ℕ, true, false, List, Option, Some, None, refl, ap, subst}
use Rattle.std.specs.Option.{MatchOption}
use lib.Dec.{T as Holds}
use Rattle.presses.specs.Buttons.{hit_in, SetsShown}
use Rattle.presses.specs.Choosing.{Chooses}
use Rattle.presses.specs.declared.Button.{Button}
use Rattle.presses.specs.declared.Label.{Label}
use Rattle.presses.specs.declared.Chosen.{Chosen}
use Rattle.presses.proofs.Unique.{choose-unique}
use Rattle.label.proofs.Unique.{set-shown-unique}

pub choose-lent-unique : (label : Label) (buttons : List Button) (records : List ℕ) (x y : Chosen) (before after after' : List ℕ) → Chooses (hit_in buttons) label records x before after
    → Chooses (hit_in buttons) label records y before after' → (x ≡ y) × (after ≡ after')
choose-lent-unique label buttons = choose-unique (hit_in buttons) label

never : true ≡ false → ⊥
never e = subst Holds e tt

-- that a list was shown or hidden a button of, or has none at the place
abbrev Sets : List Button → ℕ → ℕ → Option (List Button) → Type 0
Sets buttons place shown r = MatchOption r (SetsShown buttons place shown false buttons) (λ after. SetsShown buttons place shown true after)

pub set-shown-lent-unique : (buttons : List Button) (place shown : ℕ) (x y : Option (List Button)) → Sets buttons place shown x → Sets buttons place shown y → x ≡ y
set-shown-lent-unique buttons place shown None None p q = refl
set-shown-lent-unique buttons place shown None (Some b) p q = absurd (never (set-shown-unique buttons place shown true false b buttons q p).0)
set-shown-lent-unique buttons place shown (Some a) None p q = absurd (never (set-shown-unique buttons place shown true false a buttons p q).0)
set-shown-lent-unique buttons place shown (Some a) (Some b) p q = ap Some (set-shown-unique buttons place shown true true a b p q).1

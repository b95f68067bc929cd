-- Two answers that a contract of this crate allows are equal.
-- Assumes nothing.
use Prim.Native.Nat.{ℕ}
use mathlib.Core.Path.{◌≡◌, sym, ◌∙◌}
use mathlib.Core.Bool.{Bool}
use mathlib.Core.List.{List}
use Rattle.house.specs.declared.Record.{Record}
use Rattle.well_formed.specs.WellFormed.{has, well_as}

pub is-well-formed-unique : (l : List ℕ) (r : Record) (a b : Bool) → a ≡ well_as l r → b ≡ well_as l r → a ≡ b
is-well-formed-unique l r a b e f = e ∙ sym f

pub has-field-unique : (present bit : ℕ) (a b : Bool) → a ≡ has bit present → b ≡ has bit present → a ≡ b
has-field-unique present bit a b e f = e ∙ sym f

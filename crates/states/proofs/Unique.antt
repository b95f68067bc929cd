-- Two answers that a contract of this crate allows are equal.
-- Assumes nothing.
use Prim.Native.Nat.{ℕ}
use mathlib.Core.Path.{◌≡◌, sym, ◌∙◌}
use mathlib.Core.Bool.{Bool}
use Rattle.states.specs.Table.{listed, next}

pub is-listed-unique : (flags : ℕ) (a b : Bool) → a ≡ listed flags → b ≡ listed flags → a ≡ b
is-listed-unique flags a b e f = e ∙ sym f

pub next-state-unique : (flags state a b : ℕ) → a ≡ next flags state → b ≡ next flags state → a ≡ b
next-state-unique flags state a b e f = e ∙ sym f

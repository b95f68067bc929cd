-- Two outcomes that the contract of a run allows have the same answer; and where this is false, all else is the same.
-- Assumes nothing.
use mathlib.Core.Path.{◌≡◌, sym, ◌∙◌}
use mathlib.Core.Bool.{Bool, false}
use mathlib.Core.List.{List}
use Prim.Native.Nat.{ℕ}
use Rattle.readings.specs.Run.{RunsOver}

module _ (s₀ s s' p₀ p p' o₀ o o' : List ℕ) (r r' : Bool) (x : RunsOver s₀ s p₀ p o₀ o r) (y : RunsOver s₀ s' p₀ p' o₀ o' r') where
  pub run-unique : r ≡ r'
  run-unique = x.answer ∙ sym y.answer

  pub refused-unique : r ≡ false → (s ≡ s') × (p ≡ p') × (o ≡ o')
  refused-unique e =
      let a = x.refused e in
      let b = y.refused (sym run-unique ∙ e) in
      (a.0 ∙ sym b.0, a.1 ∙ sym b.1, a.2 ∙ sym b.2)

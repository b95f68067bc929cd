-- Two outcomes that the contract of a run allows are equal: the run, the arrays and the output.
-- Assumes nothing.
use Prim.Native.Nat.{ℕ}
use mathlib.Core.Path.{◌≡◌, sym, ◌∙◌}
use mathlib.Core.Bool.{Bool}
use mathlib.Core.List.{List}
use Rattle.machine.specs.Machine.{Arrays}
use Rattle.runs.specs.declared.Run.{Run}
use Rattle.runs.specs.Runs.{Runs}

pub run-frames-unique : (n : ℕ) (l : List ℕ) (untimed wet running : Bool) (most active : ℕ) (r r' : Run) (a b b' : Arrays) (before after after' : List ℕ)
    → Runs n l untimed wet running most active r a b before after → Runs n l untimed wet running most active r' a b' before after' → (r ≡ r') × (b ≡ b') × (after ≡ after')
run-frames-unique n l untimed wet running most active r r' a b b' before after after' x y =
    (x.run ∙ sym y.run, x.arrays ∙ sym y.arrays, x.output ∙ sym y.output)

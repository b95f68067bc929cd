use Prim.Native.Nat.{ℕ, ◌-◌, ◌*◌, ◌≤◌}
use mathlib.Core.Path.{◌≡◌}
use mathlib.Core.List.{List}
use Rattle.formats.specs.Format.{got}
use Rattle.house.specs.declared.Contact.{Contact}
use Rattle.framing.specs.Frame.{Frame}
use Rattle.reading.specs.Passes as passes
use Rattle.reading.proofs.Counting.{Counting}
use Rattle.reading.proofs.passes.count_records.Given as goal

abbrev pub invariant-loop : goal.invariant-loop
invariant-loop l =
    (l.records ≤ 65536 * l.counter)
    × ((fs : List (Frame Contact)) (t : List ℕ) → (passes.frames l.n).read l.frames ≡ got fs t → Counting fs t l.records l.left (l.n - l.counter))

use Prim.Native.Nat.{◌+◌, ◌-◌}
use mathlib.Core.Path.{◌≡◌}
use lib.ListN.{length}
use Rattle.writing.specs.Spelling.{spelt, Spelt}
use Rattle.writing.proofs.lengths.records_bytes.Given as goal

abbrev pub invariant-loop : goal.invariant-loop
invariant-loop l = (l.total + length (spelt (l.count - l.counter) l.left) ≡ length (spelt l.count l.records)) × Spelt (l.count - l.counter) l.left

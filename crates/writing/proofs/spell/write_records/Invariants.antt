use Prim.Native.Nat.{◌-◌}
use Rattle.writing.specs.Spelling.{spelt, Spelt}
use Rattle.writing.proofs.Putting.{Partly}
use Rattle.writing.proofs.spell.write_records.Given as goal

abbrev pub invariant-loop : goal.invariant-loop
invariant-loop l =
    Partly (spelt l.count l.records) (spelt (l.count - l.counter) l.left) l.initial.out l.out l.at × Spelt (l.count - l.counter) l.left

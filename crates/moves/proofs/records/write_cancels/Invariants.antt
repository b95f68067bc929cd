use Prim.Native.Nat.{◌≤◌}
use Rattle.machine.specs.Table.{contacts}
use Rattle.contacts.specs.Ruling.{table_from}
use Rattle.moves.proofs.Cancelling.{Underway}
use Rattle.moves.proofs.records.write_cancels.Given as goal

abbrev pub invariant-loop-id : goal.invariant-loop-id
invariant-loop-id l = (l.id ≤ contacts) × Underway (table_from l.states l.xs l.ys) l.initial.out l.out l.id l.at

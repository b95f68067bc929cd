use Prim.Native.Nat.{◌≤◌, ◌+◌}
use mathlib.Core.Path.{◌≡◌}
use lib.ListN.{drop}
use Rattle.machine.specs.Table.{count_active}
use Rattle.contacts.proofs.counts.count_active.Given as goal

abbrev pub invariant-loop-state : goal.invariant-loop-state
invariant-loop-state l = (l.n ≤ l.state-index) × (l.n + count_active (drop l.state-index l.states) ≡ count_active l.states)

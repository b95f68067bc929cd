use Prim.Native.Nat.{◌-◌, ◌≤◌}
use mathlib.Core.Path.{◌≡◌}
use lib.ListN.{length}
use Rattle.report.proofs.print_entries.Given as goal

abbrev pub invariant-loop-number : goal.invariant-loop-number
invariant-loop-number l =
    (length l.space ≡ length l.initial.space) × (length l.answers ≡ length l.initial.answers) × (length l.output ≡ length l.initial.output) × (length l.page ≡ length l.initial.page) × (1 ≤ l.number) × (l.at ≤ length l.page)

abbrev pub decreases-loop-number : goal.decreases-loop-number
decreases-loop-number l = 4611686018427387904 - l.number

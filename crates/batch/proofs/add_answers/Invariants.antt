use Rattle.std.proofs.Common.{◌+◌, ◌-◌, ◌≤◌, length}
use Rattle.batch.proofs.add_answers.Given as goal

abbrev pub invariant-loop-first : goal.invariant-loop-first
invariant-loop-first l = (l.first ≤ length l.answers) × (l.k ≤ l.first + 1)

-- what is left of the answers gets shorter
abbrev pub decreases-loop-first : goal.decreases-loop-first
decreases-loop-first l = length l.answers - l.first

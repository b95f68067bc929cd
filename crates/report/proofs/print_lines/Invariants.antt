use Rattle.report.proofs.Lines.{Underway}
use Rattle.report.proofs.print_lines.Given as goal

abbrev pub invariant-loop-left : goal.invariant-loop-left
invariant-loop-left l = Underway l.first l.entries l.answers l.initial.page l.page l.place l.at l.from l.number l.left

abbrev pub decreases-loop-left : goal.decreases-loop-left
decreases-loop-left l = l.left

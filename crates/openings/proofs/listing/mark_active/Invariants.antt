use mathlib.Core.Path.{◌≡◌}
use Rattle.openings.proofs.Listed.{marked_to}
use Rattle.openings.proofs.listing.mark_active.Given as goal

abbrev pub invariant-loop-i : goal.invariant-loop-i
invariant-loop-i l = l.held ≡ marked_to l.i l.states l.initial.held

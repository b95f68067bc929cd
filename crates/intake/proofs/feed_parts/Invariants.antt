-- The loop keeps: what is still to come ends as the whole does.
-- Assumes nothing.
use Prim.Native.Nat.{◌-◌}
use Rattle.contacts.specs.Ruling.{arrays_from}
use Rattle.receiver.specs.Receive.{of_parts}
use Rattle.intake.proofs.Taking.{Stands}
use Rattle.intake.proofs.feed_parts.Given as goal

abbrev pub invariant-loop-entries : goal.invariant-loop-entries
invariant-loop-entries l =
    Stands l.least (of_parts l.initial.marks (arrays_from l.initial.states l.initial.xs l.initial.ys l.initial.held)) l.file l.initial.answers l.initial.output (record { receiver = of_parts l.marks (arrays_from l.states l.xs l.ys l.held); entries = l.entries; used = l.used; records = l.records }) l.answers l.output

abbrev pub decreases-loop-entries : goal.decreases-loop-entries
decreases-loop-entries l = l.places - l.entries

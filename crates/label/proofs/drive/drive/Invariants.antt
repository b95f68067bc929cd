use Rattle.std.proofs.Common.{length, ◌-◌, ◌≡◌}
use Rattle.presses.specs.Buttons.{hit_in}
use Rattle.presses.specs.Turns.{begun_at, went_to, driven}
use Rattle.label.proofs.drive.drive.Given as goal

-- what the rest of the records makes of where the run stands is what all of them make of where it began
abbrev pub invariant-loop-tally : goal.invariant-loop-tally
invariant-loop-tally l = driven (hit_in l.buttons) l.records l.writing (went_to l.states l.pressed l.tally l.choices) ≡ driven (hit_in l.buttons) l.records l.writing (went_to l.fn.states l.fn.pressed (begun_at l.fn.from) l.fn.choices)

abbrev pub decreases-loop-tally : goal.decreases-loop-tally
decreases-loop-tally l = length l.records - l.tally.at

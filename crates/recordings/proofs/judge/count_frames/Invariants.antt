use Prim.Native.Nat.{◌+◌, ◌≤◌}
use mathlib.Core.Path.{◌≡◌}
use lib.ListN.{length}
use Rattle.recordings.specs.Records.{frames_in}
use Rattle.recordings.specs.Answer.{counted}
use Rattle.recordings.proofs.Judged.{tally}
use Rattle.recordings.proofs.judge.count_frames.Given as goal

abbrev pub invariant-loop-left : goal.invariant-loop-left
invariant-loop-left l = (l.frames + length l.left ≤ length l.records) × (tally l.frames (frames_in l.left) ≡ counted (frames_in l.records))

abbrev pub decreases-loop-left : goal.decreases-loop-left
decreases-loop-left l = length l.left

use Prim.Native.Nat.{◌-◌, ◌*◌, ◌≤◌}
use mathlib.Core.Path.{◌≡◌}
use lib.ListN.{length}
use Rattle.contacts.specs.Ruling.{arrays_from}
use Rattle.runs.specs.Runs.{frames_passed, on_frames, beginning}
use Rattle.runs.proofs.run_frames.Given as goal

abbrev pub invariant-loop : goal.invariant-loop
invariant-loop l =
    (l.pos ≤ length l.out)
    × (frames_passed l.run ≤ l.counter)
    × (l.run.records ≤ 65536 * l.counter)
    × (on_frames l.untimed l.wet l.most (l.n - l.counter) l.left (record { run = l.run; arrays = arrays_from l.states l.xs l.ys l.held; output = l.out; place = l.pos })
    ≡ on_frames l.untimed l.wet l.most l.n l.frames (beginning l.running l.active (arrays_from l.initial.states l.initial.xs l.initial.ys l.initial.held) l.initial.out))

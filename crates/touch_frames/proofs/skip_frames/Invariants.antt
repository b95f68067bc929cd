use Prim.Native.Nat.{◌-◌}
use mathlib.Core.Path.{◌≡◌}
use mathlib.Core.Bool.{◌&&◌}
use Rattle.std.proofs.Common.{nat_eq}
use Rattle.formats.specs.Format.{read_series}
use Rattle.formats.specs.Answer.{end_of, skip, skipped}
use Rattle.fields.specs.Integers.{taken_by}
use Rattle.touch.specs.Touch.{frame}
use Rattle.touch_frames.proofs.skip_frames.Given as goal

-- what is still to come ends where the whole ends, in the bytes and in memory
abbrev pub invariant-loop-i : goal.invariant-loop-i
invariant-loop-i l =
    (end_of l.left.bytes ≡ end_of l.initial.left.bytes)
    × (skipped (read_series (λ b. (skip (frame (taken_by l.strictly) b)).read) (nat_eq l.i 0 && l.judged) (l.n - l.i) l.left.bytes.now) ≡ skipped (read_series (λ b. (skip (frame (taken_by l.strictly) b)).read) l.judged l.n l.rest))

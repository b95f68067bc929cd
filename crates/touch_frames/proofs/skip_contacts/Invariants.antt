use Prim.Native.Nat.{◌-◌}
use mathlib.Core.Path.{◌≡◌}
use mathlib.Core.Bool.{false}
use Rattle.formats.specs.Format.{read_series}
use Rattle.formats.specs.Answer.{end_of, skipped}
use Rattle.fields.specs.Integers.{taken_by}
use Rattle.touch.specs.Touch.{contact}
use Rattle.touch_frames.proofs.skip_contacts.Given as goal

-- what is still to come ends where the whole ends, in the bytes and in memory
abbrev pub invariant-loop : goal.invariant-loop
invariant-loop l =
    (end_of l.left.bytes ≡ end_of l.initial.left.bytes)
    × (skipped (read_series (λ b. (contact (taken_by l.strictly)).read) false (l.n - l.counter) l.left.bytes.now) ≡ skipped (read_series (λ b. (contact (taken_by l.strictly)).read) false l.n l.rest))

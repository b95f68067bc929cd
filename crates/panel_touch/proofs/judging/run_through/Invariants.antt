use Prim.Native.Nat.{ℕ}
use mathlib.Core.Path.{◌≡◌}
use mathlib.Core.List.{List}
use lib.ListN.{length}
use Rattle.formats.specs.Format.{got}
use Rattle.house.specs.declared.Contact.{Contact}
use Rattle.framing.specs.Frame.{Frame}
use Rattle.recordings.specs.Records.{frames_in}
use Rattle.contacts.specs.Touch.{touch_rules}
use Rattle.contacts.specs.Ruling.{table_from}
use Rattle.panel_touch.proofs.Running.{Underway}
use Rattle.panel_touch.proofs.judging.run_through.Given as goal

abbrev pub invariant-loop-left : goal.invariant-loop-left
invariant-loop-left l =
    (fs : List (Frame Contact)) (end : List ℕ) → frames_in l.records ≡ got fs end
    → Underway (touch_rules l.most) (table_from l.initial.states l.initial.xs l.initial.ys) fs end l.active l.left (table_from l.states l.xs l.ys)

abbrev pub decreases-loop-left : goal.decreases-loop-left
decreases-loop-left l = length l.left

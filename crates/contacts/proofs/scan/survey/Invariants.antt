use Prim.Native.Nat.{◌≤◌, ◌-◌}
use mathlib.Core.Path.{◌≡◌}
use lib.ListN.{length}
use Rattle.std.specs.Prelude.{None}
use Rattle.contacts.specs.Ruling.{source, contacts_by, of_read, surveyed}
use Rattle.contacts.proofs.Scanning.{surveyed_from}
use Rattle.contacts.proofs.scan.survey.Given as goal

abbrev pub invariant-loop : goal.invariant-loop
invariant-loop l =
    (length l.seen ≡ 256) × (l.came ≤ l.counter) × (l.gone ≤ l.counter)
    × (of_read None (surveyed_from l.states l.xs l.ys l.seen l.came l.gone) (contacts_by (source l.recorded) (l.n - l.counter) l.left) ≡ of_read None (surveyed l.states l.xs l.ys) (contacts_by (source l.recorded) l.n l.rest))

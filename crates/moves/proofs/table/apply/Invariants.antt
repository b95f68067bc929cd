use Prim.Native.Nat.{◌-◌}
use mathlib.Core.Path.{◌≡◌}
use Rattle.states.specs.Table.{next}
use Rattle.machine.specs.Conforms.{moved}
use Rattle.contacts.specs.Touch.{touch_view}
use Rattle.contacts.specs.Ruling.{source, contacts_by, table_from}
use Rattle.formats.specs.Answer.{end_of}
use Rattle.framing.specs.After.{on_read, after_read}
use Rattle.moves.specs.Moves.{behind}
use Rattle.moves.proofs.table.apply.Given as goal

abbrev pub invariant-loop : goal.invariant-loop
invariant-loop l =
    (end_of l.left.bytes ≡ end_of l.initial.left.bytes)
    × (on_read l.rest (λ cs t. t) (contacts_by (source l.recorded) (l.n - l.counter) l.left.bytes.now) ≡ behind (source l.recorded) l.n l.rest)
    × (after_read (moved touch_view next) (source l.recorded) (l.n - l.counter) (table_from l.states l.xs l.ys) l.left.bytes.now ≡ after_read (moved touch_view next) (source l.recorded) l.n (table_from l.initial.states l.initial.xs l.initial.ys) l.rest)

use Prim.Native.Nat.{◌-◌}
use mathlib.Core.Path.{◌≡◌}
use Rattle.fields.specs.Integers.{taken}
use Rattle.touch.specs.Touch.{contact}
use Rattle.frame_records.proofs.Contacts.{Laying}
use Rattle.states.specs.Table.{next}
use Rattle.machine.specs.Conforms.{moved}
use Rattle.contacts.specs.Touch.{touch_view}
use Rattle.contacts.specs.Ruling.{contacts_of, table_from}
use Rattle.framing.specs.After.{on_read, after_read}
use Rattle.moves.specs.Moves.{behind}
use Rattle.runs.proofs.carry.carry_contacts.Given as goal

abbrev pub invariant-loop : goal.invariant-loop
invariant-loop l =
    Laying l.n l.rest l.initial.out l.out l.pos l.left (l.n - l.counter)
    × (on_read l.rest (λ cs t. t) (contacts_of (l.n - l.counter) l.left) ≡ behind (contact taken) l.n l.rest)
    × (after_read (moved touch_view next) (contact taken) (l.n - l.counter) (table_from l.states l.xs l.ys) l.left
    ≡ after_read (moved touch_view next) (contact taken) l.n (table_from l.initial.states l.initial.xs l.initial.ys) l.rest)

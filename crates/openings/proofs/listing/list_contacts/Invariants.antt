use Prim.Native.Nat.{◌-◌}
use mathlib.Core.Path.{◌≡◌}
use Rattle.fields.specs.Integers.{taken}
use Rattle.touch.specs.Touch.{contact}
use Rattle.machine.specs.Held.{with_listing}
use Rattle.contacts.specs.Touch.{touch_view}
use Rattle.contacts.specs.Ruling.{contacts_of}
use Rattle.formats.specs.Answer.{end_of}
use Rattle.framing.specs.After.{on_read, after_read}
use Rattle.moves.specs.Moves.{behind}
use Rattle.openings.proofs.listing.list_contacts.Given as goal

abbrev pub invariant-loop : goal.invariant-loop
invariant-loop l =
    (end_of l.left.bytes ≡ end_of l.initial.left.bytes)
    × (on_read l.rest (λ cs t. t) (contacts_of (l.n - l.counter) l.left.bytes.now) ≡ behind (contact taken) l.n l.rest)
    × (after_read (with_listing touch_view) (contact taken) (l.n - l.counter) l.held l.left.bytes.now ≡ after_read (with_listing touch_view) (contact taken) l.n l.initial.held l.rest)

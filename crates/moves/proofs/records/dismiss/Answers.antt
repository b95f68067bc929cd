-- `moves::records::dismiss` meets its contract: nothing happens, there is no room, or the record is written and the contact goes.
-- Assumes nothing.
use Rattle.machine.specs.Table.{state_at, place_at}
use Rattle.moves.proofs.Dismissal.{dismisses-nothing, dismisses-none, dismisses-record}
use Rattle.moves.proofs.records.dismiss.Goals as goal

pub returns-then-states-i-ne-HOVERING : goal.returns-then-states-i-ne-HOVERING
unfolding state_at
returns-then-states-i-ne-HOVERING c = dismisses-nothing _ _ _ _ c.done.ensures c.if-states-i-ne-HOVERING.true

pub returns-then-out-lt-RECORD_BYTES : goal.returns-then-out-lt-RECORD_BYTES
unfolding state_at
returns-then-out-lt-RECORD_BYTES c = dismisses-none _ _ c.if-states-i-ne-HOVERING.false _ _ c.refused.ensures c.if-out-lt-RECORD_BYTES.true

pub returns : goal.returns
unfolding state_at place_at
returns c =
    dismisses-record _ _ c.if-states-i-ne-HOVERING.false _ _ _ _ _ c.if-out-lt-RECORD_BYTES.false c.stored_contact-contact.ensures c.store.ensures c.write_contact.ensures

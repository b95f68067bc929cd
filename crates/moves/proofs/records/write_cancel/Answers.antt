-- `moves::records::write_cancel` meets its contract: nothing where the contact is out of range, and its record where it is active.
-- Assumes nothing.
use Rattle.machine.specs.Table.{state_at, place_at}
use Rattle.moves.proofs.Cancelling.{cancels-nothing, cancels-record}
use Rattle.moves.proofs.records.write_cancel.Goals as goal

pub returns-then-state-eq-OUT : goal.returns-then-state-eq-OUT
unfolding state_at
returns-then-state-eq-OUT c = cancels-nothing _ _ _ _ c.done.ensures c.if-state-eq-OUT.true

pub returns : goal.returns
unfolding state_at place_at
returns c =
    cancels-record _ _ _ _ _ _ _ c.if-state-eq-OUT.false c.cancel_flags.ensures c.stored_contact-contact.ensures c.write_contact.ensures

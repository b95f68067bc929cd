-- `moves::table::move_contact` meets its contract: out of range the origin is stored, and otherwise the contact's own position.
-- Assumes nothing.
use Rattle.machine.specs.Table.{state_at}
use Rattle.moves.proofs.Moving.{moves_out, moves-in}
use Rattle.moves.proofs.table.move_contact.Goals as goal

pub returns-then-state-eq-OUT : goal.returns-then-state-eq-OUT
unfolding state_at
returns-then-state-eq-OUT c =
    moves_out _ _ _ _ c.next_state-state.ensures c.if-state-eq-OUT.true c.store.ensures

pub returns : goal.returns
unfolding state_at
returns c =
    moves-in _ _ _ _ c.next_state-state.ensures c.if-state-eq-OUT.false c.store-2.ensures

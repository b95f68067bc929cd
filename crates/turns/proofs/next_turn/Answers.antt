-- `turns::next_turn` meets its contract: what the next entry is decides the turn.
-- Assumes nothing.
use Rattle.turns.proofs.Laws.{turned-entry}
use Rattle.turns.proofs.next_turn.Goals as goal

pub returns-in-Entry : goal.returns-in-Entry
returns-in-Entry c =
    turned-entry _ _ _ _ _ _ _ _ c.turn_over-place.ensures _ _ _ (rw c.in-Entry.is at c.next_entry-next.ensures) c.add_number.ensures

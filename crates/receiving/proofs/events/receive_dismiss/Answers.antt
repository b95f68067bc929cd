-- `receiving::events::receive_dismiss` meets its contract.
-- Assumes nothing.
use mathlib.Core.Path.{ap, ◌∙◌}
use Rattle.formats.specs.Format.{bad}
use Rattle.receiver.proofs.Answering.{turned_same}
use Rattle.receiving.proofs.Bodies.{dismiss-refused, dismiss-taken}
use Rattle.receiving.proofs.events.receive_dismiss.Goals as goal

pub returns-in-Err : goal.returns-in-Err
returns-in-Err c = dismiss-refused _ _ _ _ _ (ap bad c.number.ensures ∙ c.in-Err.ensures) (turned_same _ _ _ c.refuse.ensures)

pub returns-in-Ok : goal.returns-in-Ok
returns-in-Ok c =
    dismiss-taken _ _ _ _ _ _ _ _ _ c.in-Ok.ensures c.dismiss-written.ensures c.forget.ensures (turned_same _ _ _ c.quiet.ensures)

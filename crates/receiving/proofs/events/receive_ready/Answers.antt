-- `receiving::events::receive_ready` meets its contract.
-- Assumes nothing.
use mathlib.Core.Path.{ap, ◌∙◌}
use Rattle.formats.specs.Format.{bad}
use Rattle.receiver.proofs.Answering.{gives-refused, gives_same, turned_same}
use Rattle.receiving.proofs.Bodies.{unready-refused, unready-event}
use Rattle.receiving.proofs.events.receive_ready.Goals as goal

pub returns-in-Err : goal.returns-in-Err
returns-in-Err c o t d =
    gives-refused _ d _ _ _ (unready-refused _ _ o _ (ap bad c.number.ensures ∙ c.in-Err.ensures.value)) (turned_same _ _ t c.refuse.ensures)

pub returns-in-Ok : goal.returns-in-Ok
returns-in-Ok c o t d = gives_same _ _ _ d _ d (unready-event _ _ o _ _ c.in-Ok.ensures.value) (c.receive_settings.ensures t d)

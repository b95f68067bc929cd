-- `receiving::events::receive_settings` meets its contract.
-- Assumes nothing.
use mathlib.Core.Path.{ap, ◌∙◌}
use Rattle.formats.specs.Format.{bad}
use Rattle.receiver.specs.Receive.{of_parts}
use Rattle.receiver.specs.declared.Marks.{Marks}
use Rattle.receiver.proofs.Answering.{turned_same}
use Rattle.receiving.proofs.Bodies.{settings-refused, settings-taken}
use Rattle.receiving.proofs.events.receive_settings.Goals as goal

pub returns-in-Err : goal.returns-in-Err
returns-in-Err c t d = settings-refused _ _ _ d _ (ap bad c.number.ensures ∙ c.in-Err.ensures) (turned_same _ _ t c.refuse.ensures)

pub returns-in-Ok : goal.returns-in-Ok
returns-in-Ok c t d =
    settings-taken _ _ _ d _ _ c.in-Ok.ensures (ap (λ (m : Marks). of_parts m t) c.settle.ensures) (turned_same _ _ t c.quiet.ensures)

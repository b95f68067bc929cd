-- `commands::carrying::declare` meets its contract.
-- Assumes nothing.
use mathlib.Core.Path.{refl}
use borrow.Author.Tests.{eq-eqb, ne_eqb}
use Rattle.commands.specs.Commands.{ready_in}
use Rattle.commands.proofs.Carried.{lends}
use Rattle.commands.proofs.carrying.declare.Goals as goal

pub returns-then-entry-ne-READY_BYTES : goal.returns-then-entry-ne-READY_BYTES
unfolding ready_in
returns-then-entry-ne-READY_BYTES c = rw (ne_eqb _ _ c.if-entry-ne-READY_BYTES.true) (record { answer = c.pass_over.ensures; output = refl })

pub returns : goal.returns
unfolding ready_in
returns c =
    rw (eq-eqb _ _ c.if-entry-ne-READY_BYTES.false) (lends _ _ _ _ _ _ _ _ c.lent_of-room.ensures c.told.ensures (rw c.settings_in-settings.ensures at c.write_ready.ensures))

-- `commands::carrying::dismiss` meets its contract.
-- Assumes nothing.
use mathlib.Core.Path.{refl}
use borrow.Author.Tests.{eq-eqb, ne_eqb}
use Rattle.commands.specs.Commands.{dismissal_in}
use Rattle.commands.proofs.Carried.{lends}
use Rattle.commands.proofs.carrying.dismiss.Goals as goal

pub returns-then-entry-ne-DISMISSAL_BYTES : goal.returns-then-entry-ne-DISMISSAL_BYTES
unfolding dismissal_in
returns-then-entry-ne-DISMISSAL_BYTES c = rw (ne_eqb _ _ c.if-entry-ne-DISMISSAL_BYTES.true) (record { answer = c.pass_over.ensures; output = refl })

pub returns : goal.returns
unfolding dismissal_in
returns c =
    rw (eq-eqb _ _ c.if-entry-ne-DISMISSAL_BYTES.false) (lends _ _ _ _ _ _ _ _ c.lent_of-room.ensures c.told.ensures c.write_dismiss.ensures)

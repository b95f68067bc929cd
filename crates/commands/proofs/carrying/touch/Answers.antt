-- `commands::carrying::touch` meets its contract.
-- Assumes nothing.
use mathlib.Core.Path.{refl}
use borrow.Author.Tests.{le-leb, lt-leb}
use Rattle.slices.proofs.Tails.{tail-is}
use Rattle.commands.specs.Commands.{touch_in}
use Rattle.commands.proofs.Carried.{lends}
use Rattle.commands.proofs.carrying.touch.Goals as goal

pub returns-then-entry-lt-TOUCH_HEAD_BYTES : goal.returns-then-entry-lt-TOUCH_HEAD_BYTES
unfolding touch_in
returns-then-entry-lt-TOUCH_HEAD_BYTES c = rw (lt-leb _ _ c.if-entry-lt-TOUCH_HEAD_BYTES.true) (record { answer = c.pass_over.ensures; output = refl })

pub returns : goal.returns
unfolding touch_in
returns c =
    rw (le-leb _ _ c.if-entry-lt-TOUCH_HEAD_BYTES.false) (lends _ _ _ _ _ _ _ _ c.lent_of-room.ensures c.told.ensures (rw (tail-is _ 7, c.time_in-time.ensures) at c.write_touch.ensures))

-- `messages::little::read_four` meets its contract: the number, and the bytes behind it.
-- Assumes nothing.
use mathlib.Core.Path.{sym}
use native.Mathlib.Omega.{arith}
use Rattle.formats.proofs.Steps.{tail}
use Rattle.messages.proofs.Front.{little_four}
use Rattle.messages.proofs.little.read_four.Goals as goal

pub returns : goal.returns
returns c = rw (tail c.args.rest.now 4, c.four.ensures) (sym (little_four c.args.rest.now (omega arith)))

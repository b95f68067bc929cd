-- `messages::little::read_two` meets its contract: the number, and the bytes behind it.
-- Assumes nothing.
use mathlib.Core.Path.{sym}
use native.Mathlib.Omega.{arith}
use Rattle.formats.proofs.Steps.{tail}
use Rattle.messages.proofs.Front.{little_two}
use Rattle.messages.proofs.little.read_two.Goals as goal

pub returns : goal.returns
returns c = rw (tail c.args.rest.now 2, c.two.ensures) (sym (little_two c.args.rest.now (omega arith)))

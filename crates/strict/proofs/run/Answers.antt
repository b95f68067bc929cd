-- `strict::run` meets its contract: what it lends is enough.
-- Assumes nothing.
use native.Mathlib.Omega.{arith}
use Rattle.readings.proofs.Laws.{not-refused}
use Rattle.strict.proofs.run.Goals as goal

pub returns : goal.returns
returns c = not-refused _ _ _ _ _ _ _ c.run.ensures (record { entry = omega arith; line = omega arith; records = omega arith })

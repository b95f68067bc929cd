-- `entries::numbers::join_two` meets its contract.
-- Assumes nothing.
use native.Mathlib.Omega.{arith}
use Rattle.digits.specs.Digits.{joined}
use Rattle.entries.proofs.numbers.join_two.Goals as goal

pub returns : goal.returns
unfolding joined
returns c = omega arith

-- `entries::numbers::join_four` meets its contract.
-- Assumes nothing.
use native.Mathlib.Omega.{arith}
use Rattle.digits.specs.Digits.{joined}
use Rattle.entries.proofs.numbers.join_four.Goals as goal

pub returns : goal.returns
unfolding joined
returns c = omega arith

-- `integers::kinds::signed` meets its contract: nothing less the magnitude has sign 1 and that magnitude, but where it is 0.
-- Assumes nothing.
use native.Mathlib.Omega.{arith}
use Rattle.std.proofs.lemmas.Bool.Decides.{nat_tests}
use Rattle.std.proofs.lemmas.Int.{ints}
use Rattle.integers.specs.Integer.{sign_over}
use Rattle.integers.proofs.kinds.signed.Goals as goal

pub returns-then-s-eq0 : goal.returns-then-s-eq0
unfolding sign_over
returns-then-s-eq0 c = (grind (arith, ints, nat_tests), grind (arith, ints, nat_tests))

pub returns : goal.returns
unfolding sign_over
returns c = (grind (arith, ints, nat_tests), grind (arith, ints, nat_tests))

-- Signed values as sign and magnitude.
-- Assumes nothing.
use Prim.Native.Nat.{ℕ, ◌%◌, ◌<◌}
use mathlib.Core.Path.{◌≡◌}
use native.Mathlib.Omega.{arith}
use lib.IntN.{ℤ, pos, negsuc}
use Rattle.integers.specs.Integer.{sign_over}
use Rattle.integers.specs.Shape.{minus}
use Rattle.integers.proofs.Laws.{sign-plain}

pub minus-small : (z : ℤ) → minus z < 2
minus-small (pos n) = omega arith
minus-small (negsuc n) = omega arith

-- where no bit is the sign's there is none
pub unsigned : (s m : ℕ) → sign_over (s % 1) m ≡ 0
unsigned s m = omega (arith, (sign-plain (s % 1) m).1)

-- Whether two numbers with a sign are the same, as a test that can be computed.
use Rattle.std.specs.Prelude.{Bool, false, eqb, ℤ, pos, negsuc}

unfoldable pub same_number : ℤ → ℤ → Bool
same_number (pos m) (pos n) = eqb m n
same_number (pos m) (negsuc n) = false
same_number (negsuc m) (pos n) = false
same_number (negsuc m) (negsuc n) = eqb m n

-- The values of integers, as signs and magnitudes.
use Rattle.std.specs.Prelude.{ℕ, zero, suc, ◌≡◌, refl, ℤ, pos, negsuc, nat_abs}

-- a signed value's sign; its magnitude is the library's `nat_abs`
abbrev pub minus : ℤ → ℕ
minus (pos n) = 0
minus (negsuc n) = 1

-- the value of a sign and a magnitude
unfoldable pub signed_value : ℕ → ℕ → ℤ
signed_value zero m = pos m
signed_value (suc s) zero = pos zero
signed_value (suc s) (suc m) = negsuc m

-- values as sign and magnitude
pub record Shape (A : Type 0) : Type 0 where
  pub made : ℕ → ℕ → A
  pub sign : A → ℕ
  pub size : A → ℕ

-- no sign
abbrev pub unsigned : Shape ℕ
unsigned = record { made = λ s m. m; sign = λ m. 0; size = λ m. m }

abbrev pub signed : Shape ℤ
signed = record { made = signed_value; sign = minus; size = nat_abs }

-- a signed value is its sign and its magnitude
pub signed-again : (z : ℤ) → signed_value (minus z) (nat_abs z) ≡ z
unfolding signed_value
signed-again (pos n) = refl
signed-again (negsuc n) = refl

-- "Signed fields are two's complement", at any width.
use Rattle.std.specs.Prelude.{ℕ, suc, ◌*◌, ◌-◌, ◌%◌, ◌^◌, ◌<◌, cond, ℤ, pos, negsuc, ltb}
use Rattle.std.specs.Int.Signed.{mag}

-- z modulo 2 ^ w
abbrev pub twos_of : ℕ → ℤ → ℕ
twos_of w (pos n) = n % 2 ^ w
twos_of w (negsuc n) = 2 ^ w - suc (n % 2 ^ w)

-- the number of a field v below 2 ^ w
abbrev pub of_twos : ℕ → ℕ → ℤ
of_twos w v = cond (ltb (2 * v) (2 ^ w)) (pos v) (negsuc (2 ^ w - suc v))

-- w bits hold z: -2 ^ (w - 1) ≤ z < 2 ^ (w - 1). (`mag` is n both of n and of -(n + 1))
pub record Holds (w : ℕ) (z : ℤ) : Type 0 where
  pub holds : 2 * mag z < 2 ^ w

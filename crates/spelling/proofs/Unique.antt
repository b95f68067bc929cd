-- Two outcomes that the contracts allow are equal: both are equations of the number.
-- Assumes nothing.
use Prim.Native.Nat.{ℕ}
use mathlib.Core.Path.{◌≡◌, sym, ◌∙◌}

pub bytes-unique : (n r q : ℕ) → r ≡ n → q ≡ n → r ≡ q
bytes-unique n r q x y = x ∙ sym y

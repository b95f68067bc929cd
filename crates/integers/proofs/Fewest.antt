-- The fewest further bytes: they are enough, no fewer are, and how a search finds them.
-- Assumes nothing.
use Prim.Native.Nat.{ℕ, zero, suc, ◌*◌, ◌/◌, ◌^◌, ◌<◌, ◌≤◌}
use mathlib.Core.Path.{◌≡◌, refl}
use mathlib.Core.Bool.{Bool, true, false, cond}
use native.Mathlib.Nat.{pow-suc, mul_assoc, div-lt_iff_lt-mul}
use native.Mathlib.Omega.{arith}
use lib.Dec.{ltb, lit<}
use borrow.Author.Tests.{ltb-true, lt-ltb, le-ltb}
use Rattle.integers.specs.Integer.{fewest}

-- one digit less, and one more
less : (t n c : ℕ) → n < t * 256 ^ suc c → n / 256 < t * 256 ^ c
less t n c h = (div-lt_iff_lt-mul (lit< tt)).1 (rw (pow-suc, ← mul_assoc) at h)

more : (t n c : ℕ) → n / 256 < t * 256 ^ c → n < t * 256 ^ suc c
more t n c h = rw (pow-suc, ← mul_assoc) ((div-lt_iff_lt-mul (lit< tt)).0 h)

-- they are enough
pub fewest-fits : (f t n : ℕ) → n < t * 256 ^ f → n < t * 256 ^ fewest f t n
unfolding fewest
fewest-fits zero t n h = h
fewest-fits (suc f) t n h = go (ltb n t) refl (more t n _ (fewest-fits f t (n / 256) (less t n f h)))
  where
    go : (b : Bool) → ltb n t ≡ b → n < t * 256 ^ suc (fewest f t (n / 256)) → n < t * 256 ^ cond b zero (suc (fewest f t (n / 256)))
    go true e k = omega (arith, ltb-true n t e)
    go false e k = k

-- no fewer are
pub fewest-least : (f t n c : ℕ) → n < t * 256 ^ c → fewest f t n ≤ c
unfolding fewest
fewest-least zero t n c h = omega arith
fewest-least (suc f) t n zero h = rw (lt-ltb n t (omega arith)) (omega arith)
fewest-least (suc f) t n (suc c) h = go (ltb n t) (fewest-least f t (n / 256) c (less t n c h))
  where
    go : (b : Bool) → fewest f t (n / 256) ≤ c → cond b zero (suc (fewest f t (n / 256))) ≤ suc c
    go true k = omega arith
    go false k = omega arith

-- never more than the first argument
pub fewest-most : (f t n : ℕ) → fewest f t n ≤ f
unfolding fewest
fewest-most zero t n = omega arith
fewest-most (suc f) t n = go (ltb n t) (fewest-most f t (n / 256))
  where
    go : (b : Bool) → fewest f t (n / 256) ≤ f → cond b zero (suc (fewest f t (n / 256))) ≤ suc f
    go true k = omega arith
    go false k = omega arith

-- a turn of the search for them, and its end
pub fewest-step : (f t n : ℕ) → t ≤ n → fewest (suc f) t n ≡ suc (fewest f t (n / 256))
unfolding fewest
fewest-step f t n h = rw (le-ltb n t h)

pub fewest-stop : (f t n : ℕ) → n < t → fewest f t n ≡ 0
unfolding fewest
fewest-stop zero t n h = refl
fewest-stop (suc f) t n h = rw (lt-ltb n t h)

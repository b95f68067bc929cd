-- The laws of two's complement, once over the width, and of the machine's signed numbers.
-- Assumes nothing.
use mathlib.Core.Path.{◌≡◌, refl}
use mathlib.Core.Bool.{Bool, true, false, cond}
use Prim.Native.Nat.{ℕ, zero, suc, ◌*◌, ◌-◌, ◌^◌, ◌<◌, ◌≤◌}
use native.Mathlib.Nat.{pow-succ', zero-add, mod-lt, mod-eq_of_lt}
use native.Mathlib.Omega.{arith}
use lib.IntN.{ℤ, pos, negsuc, ◌-ℤ◌}
use lib.Dec.{T, ltb, leb}
use lib.Pow.{pow_pos}
use borrow.Author.Tests.{lt-ltb, le-ltb, ltb-true, ltb-false}
use mir.Syntax.{Width}
use mir.Val.{hbits, SFits, to_z, of_z}
use mir.ValLaws.{to_z-of_z}
use mir.Facts.{sfits_widen}
use Rattle.house.specs.Twos.{Holds, twos_of, of_twos}

-- ---- the field of a number, and the number of a field

pub twos-lt : (w : ℕ) (z : ℤ) → twos_of w z < 2 ^ w
twos-lt w (pos n) = mod-lt n (pow_pos w)
twos-lt w (negsuc n) = omega (arith, pow_pos w)

pub of-twos : (h : ℕ) (z : ℤ) → Holds (suc h) z → of_twos (suc h) (twos_of (suc h) z) ≡ z
of-twos h (pos n) k =
    let l : n < 2 ^ suc h = omega (arith, k.holds) in
    rw (mod-eq_of_lt l, lt-ltb (2 * n) (2 ^ suc h) k.holds)
of-twos h (negsuc n) k =
    let i : n < 2 ^ suc h = omega (arith, k.holds) in
    let l : 2 ^ suc h ≤ 2 * (2 ^ suc h - suc n) = omega (arith, k.holds, pow-succ' 2 h) in
    let e : 2 ^ suc h - suc (2 ^ suc h - suc n) ≡ n = omega (arith, k.holds, pow-succ' 2 h) in
    rw (mod-eq_of_lt i, le-ltb _ _ l, e)

module _ (w v : ℕ) (h : v < 2 ^ w) where
  by : (b : Bool) → ltb (2 * v) (2 ^ w) ≡ b → (twos_of w (cond b (pos v) (negsuc (2 ^ w - suc v))) ≡ v) × Holds w (cond b (pos v) (negsuc (2 ^ w - suc v)))
  by true e = (mod-eq_of_lt h, record { holds = ltb-true (2 * v) (2 ^ w) e })
  by false e =
      let l : 2 ^ w - suc v < 2 ^ w = omega arith in
      (rw (mod-eq_of_lt l) (omega arith), record { holds = omega (arith, ltb-false (2 * v) (2 ^ w) e) })

  pub twos-of : twos_of w (of_twos w v) ≡ v
  twos-of = (by (ltb (2 * v) (2 ^ w)) refl).0

  pub of-holds : Holds w (of_twos w v)
  of-holds = (by (ltb (2 * v) (2 ^ w)) refl).1

-- ---- the machine's signed numbers: -1 - z turns n into -(n + 1)

pub flop : (n : ℕ) → negsuc 0 -ℤ pos n ≡ negsuc n
flop zero = refl
flop (suc n) = rw zero-add

-- ---- a number in more bits

pub cast-wider : (v w : Width) (z : ℤ) → T (leb (hbits v) (hbits w)) → SFits v z → SFits w (to_z v (of_z v z))
cast-wider v w z t f = rw (to_z-of_z v z f) (sfits_widen t f)

pub wider : (v w : Width) (z : ℤ) → T (leb (hbits v) (hbits w)) → SFits v z → to_z w (of_z w (to_z v (of_z v z))) ≡ z
wider v w z t f = rw (to_z-of_z v z f) (to_z-of_z w z (sfits_widen t f))

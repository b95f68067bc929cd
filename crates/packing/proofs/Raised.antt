-- A number raised by t, which is no less than a magnitude of 32 bits.
-- Assumes nothing.
use mathlib.Core.Path.{◌≡◌, refl}
use Prim.Native.Nat.{ℕ, suc, ◌+◌, ◌*◌, ◌-◌, ◌/◌, ◌%◌, ◌^◌, ◌<◌, ◌≤◌}
use native.Mathlib.Nat.{suc-mul, add-mul, mod-lt, mod-eq_of_lt, mul-add-mod_self_right}
use native.Mathlib.Omega.{arith}
use lib.IntN.{ℤ, pos, negsuc, ◌+ℤ◌}
use lib.Pow.{pow_pos, pow-add, split, shr_lt}
use borrow.Author.Tests.{le-ltb}
use mir.Syntax.{w32}
use mir.Val.{SFits}
use Rattle.house.specs.Twos.{twos_of}

abbrev pub raised : ℕ → ℤ → ℕ
raised t (pos n) = n + t
raised t (negsuc n) = t - suc n

pub raised_is : (t : ℕ) (z : ℤ) → 2 ^ 31 ≤ t → SFits w32 z → z +ℤ pos t ≡ pos (raised t z)
raised_is t (pos n) h f = refl
raised_is t (negsuc n) h f = let l : suc n ≤ t = omega (arith, f.sfits) in rw (le-ltb t (suc n) l)

pub raised-fits : (t : ℕ) (z : ℤ) → t ≤ 2 ^ 62 → SFits w32 z → raised t z < 2 ^ 63
raised-fits t (pos n) h f = omega (arith, f.sfits)
raised-fits t (negsuc n) h f = omega (arith, f.sfits)

-- 2 ^ 32 is 0 modulo 2 ^ w
pub raised-mod : (w : ℕ) (z : ℤ) → w < 33 → SFits w32 z → raised 4294967296 z % 2 ^ w ≡ twos_of w z
raised-mod w (pos n) h f =
    let e : 32 - w + w ≡ 32 = omega arith in
    let q : n + 4294967296 ≡ 2 ^ (32 - w) * 2 ^ w + n = rw (← pow-add 2 (32 - w) w, e) (omega arith) in
    rw (q, mul-add-mod_self_right (2 ^ (32 - w)) (2 ^ w) n)
raised-mod w (negsuc n) h f =
    let p = 2 ^ w in
    let k = 2 ^ (32 - w) - suc (n / p) in
    let e : 32 - w + w ≡ 32 = omega arith in
    let l : n / p < 2 ^ (32 - w) = shr_lt (32 - w) w (rw e (omega (arith, f.sfits))) in
    let m : k + suc (n / p) ≡ 2 ^ (32 - w) = omega arith in
    let a : k * p + (n / p * p + p) ≡ 4294967296 = rw (← suc-mul, ← add-mul, m, ← pow-add 2 (32 - w) w, e) in
    let q : 4294967296 - suc n ≡ k * p + (p - suc (n % p)) = omega (arith, split n w, mod-lt n (pow_pos w)) in
    let t : p - suc (n % p) < p = omega (arith, pow_pos w) in
    rw (q, mul-add-mod_self_right k p (p - suc (n % p)), mod-eq_of_lt t)

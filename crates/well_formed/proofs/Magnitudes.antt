-- The laws of a signed number's sign and magnitude.
-- Assumes nothing.
use mathlib.Core.Path.{◌≡◌, refl}
use mathlib.Core.Bool.{true, false}
use Prim.Native.Nat.{ℕ, suc, ◌-◌, ◌≤◌}
use native.Mathlib.Omega.{arith}
use lib.IntN.{ℤ, pos, negsuc, ◌-ℤ◌}
use lib.Signed.{mag, lt_z}
use borrow.Author.Tests.{le-ltb, ltb-true}
use mir.Syntax.{w32}
use mir.Val.{SFits, to_z, of_z}
use mir.ValLaws.{to_z-of_z}
use Rattle.well_formed.proofs.WellFormed.{never}

-- -1 - z turns -(n + 1) into n
pub flip : (n : ℕ) → negsuc 0 -ℤ negsuc n ≡ pos n
flip n =
    let l : 1 ≤ suc n = omega arith in
    let e : suc n - 1 ≡ n = omega arith in
    rw (le-ltb (suc n) 1 l, e)

-- the test of z < 0
pub negative : (z : ℤ) → SFits w32 z → lt_z (to_z w32 (of_z w32 z)) (pos 0) ≡ true → z ≡ negsuc (mag z)
negative (pos n) f t =
    let u : lt_z (pos n) (pos 0) ≡ true = rw (to_z-of_z w32 (pos n) f) at t in
    absurd (omega (arith, ltb-true n 0 u))
negative (negsuc n) f t = refl

pub positive : (z : ℤ) → SFits w32 z → lt_z (to_z w32 (of_z w32 z)) (pos 0) ≡ false → z ≡ pos (mag z)
positive (pos n) f t = refl
positive (negsuc n) f t =
    let u : true ≡ false = rw (to_z-of_z w32 (negsuc n) f) at t in
    never refl u

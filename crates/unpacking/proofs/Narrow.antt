-- A number of 30 or 15 bits in 32 and 16.
-- Assumes nothing.
use mathlib.Core.Path.{◌≡◌}
use native.Mathlib.Omega.{arith}
use lib.IntN.{ℤ}
use mir.Syntax.{w16, w32}
use mir.Val.{SFits, to_z, of_z}
use mir.ValLaws.{to_z-of_z}
use mir.Facts.{sfits_widen}
use Rattle.house.specs.Twos.{Holds}

pub holds32 : (z : ℤ) → Holds 30 z → SFits w32 z
holds32 z h = record { sfits = omega (arith, h.holds) }

pub holds16 : (z : ℤ) → Holds 15 z → SFits w16 z
holds16 z h = record { sfits = omega (arith, h.holds) }

pub thin16 : (z : ℤ) → Holds 15 z → SFits w16 (to_z w32 (of_z w32 z))
thin16 z h = rw (to_z-of_z w32 z (sfits_widen tt (holds16 z h))) (holds16 z h)

pub back16 : (z : ℤ) → Holds 15 z → to_z w16 (of_z w16 (to_z w32 (of_z w32 z))) ≡ z
back16 z h = rw (to_z-of_z w32 z (sfits_widen tt (holds16 z h))) (to_z-of_z w16 z (holds16 z h))

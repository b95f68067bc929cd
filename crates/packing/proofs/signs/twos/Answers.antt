-- `packing::signs::twos` meets its contract: what is added is 0 modulo 2 ^ width.
-- Assumes nothing.
use mathlib.Core.Path.{◌≡◌, ap, ◌∙◌}
use Prim.Native.Nat.{ℕ, ◌^◌, ◌≤◌}
use lib.Dec.{lit≤}
use lib.IntN.{ℤ, pos, ◌+ℤ◌}
use mir.Syntax.{w32, w64}
use mir.Val.{SFits, to_z, of_z}
use mir.ValLaws.{to_z_pos}
use Rattle.house.proofs.Twos.{wider}
use Rattle.packing.proofs.Raised.{raised, raised_is, raised-fits, raised-mod}
use Rattle.packing.proofs.signs.twos.Goals as goal

-- the sum of the wide number and t
sum : (t : ℕ) (z : ℤ) → 2 ^ 31 ≤ t → SFits w32 z → to_z w64 (of_z w64 (to_z w32 (of_z w32 z))) +ℤ pos t ≡ pos (raised t z)
sum t z h f = ap (λ (x : ℤ). x +ℤ pos t) (wider w32 w64 z tt f) ∙ raised_is t z h f

-- read back, it is that number still
back : (z : ℤ) → SFits w32 z → to_z w64 (of_z w64 (to_z w64 (of_z w64 (to_z w32 (of_z w32 z))) +ℤ pos 4294967296)) ≡ pos (raised 4294967296 z)
back z f = ap (λ (x : ℤ). to_z w64 (of_z w64 x)) (sum 4294967296 z (lit≤ tt) f) ∙ to_z_pos w64 _ (raised-fits 4294967296 z (lit≤ tt) f)

pub returns : goal.returns
returns c = c.low_bits.ensures ∙ rw (back _ c.ranges.x) (raised-mod c.args.width _ c.requires c.ranges.x)

-- `well_formed::signs::is_above` meets its contract: a negative number goes by its magnitude.
-- Assumes nothing.
use mathlib.Core.Path.{◌≡◌, sym, ap, ◌∙◌}
use mathlib.Core.Bool.{true}
use Prim.Native.Nat.{ℕ}
use lib.Dec.{ltb}
use lib.IntN.{ℤ, pos, negsuc}
use lib.Signed.{mag}
use mir.Syntax.{w32}
use mir.ValLaws.{to_z-of_z}
use Rattle.well_formed.specs.WellFormed.{above}
use Rattle.well_formed.proofs.Magnitudes.{negative, positive}
use Rattle.well_formed.proofs.signs.is_above.Goals as goal

under : (n m : ℕ) (z : ℤ) → z ≡ negsuc (mag z) → m ≡ mag z → ltb m n ≡ above n z
unfolding above
under n m z e q = rw (q, e)

over : (n : ℕ) (z : ℤ) → z ≡ pos (mag z) → above n z ≡ true
unfolding above
over n z e = rw e

pub returns-then-x-lt0 : goal.returns-then-x-lt0
returns-then-x-lt0 c =
    let s = c.before.before in
    under _ _ _ (negative _ s.ranges.x c.if-x-lt0.true) (c.magnitude.ensures ∙ ap mag (to_z-of_z w32 _ s.ranges.x))

pub returns-else-x-lt0 : goal.returns-else-x-lt0
returns-else-x-lt0 c = sym (over _ _ (positive _ c.ranges.x c.if-x-lt0.false))

-- `unpacking::read::read_sides` meets its contract: each side is what `read_side` gives.
-- Assumes nothing.
use mathlib.Core.Path.{◌∙◌}
use mir.Syntax.{w16}
use mir.ValLaws.{to_z-of_z}
use Rattle.house.specs.Fields.{unpacked}
use Rattle.unpacking.proofs.Narrow.{holds16}
use Rattle.unpacking.proofs.read.read_sides.Goals as goal

pub returns : goal.returns
unfolding unpacked
returns c =
    let l = c.read_side-left.ensures in
    let t = c.read_side-top.ensures in
    let r = c.read_side-right.ensures in
    let b = c.read_side-bottom.ensures in
    λ i. record {
      left = (to_z-of_z w16 _ (holds16 _ l.1) ∙ l.0) i;
      top = (to_z-of_z w16 _ (holds16 _ t.1) ∙ t.0) i;
      right = (to_z-of_z w16 _ (holds16 _ r.1) ∙ r.0) i;
      bottom = (to_z-of_z w16 _ (holds16 _ b.1) ∙ b.0) i;
    }

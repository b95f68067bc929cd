-- `unpacking::read::read_point` meets its contract: each coordinate is what `get_signed` gives.
-- Assumes nothing.
use mathlib.Core.Path.{◌∙◌}
use Rattle.house.specs.Fields.{unpacked}
use mir.Syntax.{w32}
use mir.ValLaws.{to_z-of_z}
use Rattle.unpacking.proofs.Narrow.{holds32}
use Rattle.unpacking.proofs.read.read_point.Goals as goal

pub returns : goal.returns
unfolding unpacked
returns c =
    let x = c.get_signed-x.ensures in
    let y = c.get_signed-y.ensures in
    λ i. record { x = (to_z-of_z w32 _ (holds32 _ x.1) ∙ x.0) i; y = (to_z-of_z w32 _ (holds32 _ y.1) ∙ y.0) i }

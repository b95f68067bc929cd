-- `well_formed::well::is_point_well` meets its contract.
-- Assumes nothing.
use Rattle.well_formed.specs.WellFormed.{place_well}
use Rattle.well_formed.proofs.WellFormed.{ands-all}
use mathlib.Core.Path.{ap, ◌∙◌}
use mathlib.Core.Bool.{◌&&◌}
use mathlib.Core.List.{[], ◌∷◌}
use mir.Syntax.{w32}
use mir.ValLaws.{to_z-of_z}
use Rattle.well_formed.specs.Parts.{point_well}
use Rattle.well_formed.proofs.well.is_point_well.Goals as goal

pub returns : goal.returns
unfolding point_well
returns c =
    let e = c.before.before in
    let a = e.args.point in
    let x = e.is_above-x.ensures ∙ ap place_well (to_z-of_z w32 a.x (record { sfits = e.struct_told-1.given.0.1 })) in
    let y = c.is_above-y.ensures ∙ ap place_well (to_z-of_z w32 a.y (record { sfits = c.struct_told-2-1.given.1.0.1 })) in
    (λ i. x i && y i) ∙ ands-all (place_well a.x) (place_well a.y ∷ [])

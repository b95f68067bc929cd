-- `well_formed::well::are_sides_well` meets its contract: each side is judged by the same rule.
-- Assumes nothing.
use mathlib.Core.Path.{◌≡◌, refl, ap, ◌∙◌}
use mathlib.Core.Bool.{Bool, true, false, ◌&&◌}
use mathlib.Core.List.{[], ◌∷◌}
use mir.Syntax.{w16}
use mir.ValLaws.{to_z-of_z}
use Rattle.well_formed.specs.WellFormed.{all, sides_well}
use Rattle.well_formed.specs.Parts.{one_side_well}
use Rattle.house.specs.declared.Sides.{Sides}
use Rattle.well_formed.proofs.WellFormed.{ands-all}
use Rattle.well_formed.proofs.well.are_sides_well.Goals as goal

-- the rule of the sides, side by side
either : (b : Bool) (s : Sides) → all (one_side_well b s.left ∷ one_side_well b s.top ∷ one_side_well b s.right ∷ one_side_well b s.bottom ∷ []) ≡ sides_well b s
unfolding sides_well
either true s = refl
either false s = refl

pub returns : goal.returns
returns c =
    let d = c.before.before in
    let e = d.before.before in
    let f = e.before.before in
    let b = f.args.there in
    let s = f.args.sides in
    let l = f.is_side_well-left.ensures ∙ ap (one_side_well b) (to_z-of_z w16 s.left (record { sfits = f.struct_told-1.given.0.1 })) in
    let t = e.is_side_well-top.ensures ∙ ap (one_side_well b) (to_z-of_z w16 s.top (record { sfits = e.struct_told-2-1.given.1.0.1 })) in
    let r = d.is_side_well-right.ensures ∙ ap (one_side_well b) (to_z-of_z w16 s.right (record { sfits = d.struct_told-3-1.given.1.1.0.1 })) in
    let u = c.is_side_well-bottom.ensures ∙ ap (one_side_well b) (to_z-of_z w16 s.bottom (record { sfits = c.struct_told-4-1.given.1.1.1.0.1 })) in
    (λ i. ((l i && t i) && r i) && u i)
    ∙ ands-all (one_side_well b s.left) (one_side_well b s.top ∷ one_side_well b s.right ∷ one_side_well b s.bottom ∷ [])
    ∙ either b s

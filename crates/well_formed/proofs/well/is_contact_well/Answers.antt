-- `well_formed::well::is_contact_well` meets its contract: each part is judged, and all of them must be well.
-- Assumes nothing.
use mathlib.Core.Path.{◌≡◌, ap, ◌∙◌}
use mathlib.Core.Bool.{Bool, false, cond, ◌&&◌}
use mathlib.Core.List.{[], ◌∷◌}
use Prim.Native.Nat.{ℕ}
use Rattle.states.specs.Table.{listed}
use Rattle.well_formed.specs.WellFormed.{all, has, orientation_most, pressure_most, place_well, sides_well, at_most, contact_well}
use Rattle.well_formed.specs.Parts.{point_well}
use Rattle.well_formed.proofs.WellFormed.{ands-all, all-all}
use Rattle.well_formed.proofs.well.is_contact_well.Goals as goal

-- a point's two tests are two of the six
joined : (f x y s o p : Bool) → (((f && all (x ∷ y ∷ [])) && s) && o) && p ≡ all (f ∷ x ∷ y ∷ s ∷ o ∷ p ∷ [])
unfolding all
joined f x y s o p =
    ands-all f (all (x ∷ y ∷ []) ∷ s ∷ o ∷ p ∷ []) ∙ ap (λ (b : Bool). cond f b false) (all-all (x ∷ y ∷ []) (s ∷ o ∷ p ∷ []))

pub returns : goal.returns
unfolding contact_well point_well
returns c =
    let o = c.before.before in
    let s = o.before.before in
    let p = s.before.before.before in
    let f = p.before in
    let a = f.args.contact in
    let there : ℕ → Bool = λ (bit : ℕ). has bit a.present in
    let sides = s.are_sides_well-sides_well.ensures ∙ ap (λ (b : Bool). sides_well b a.sides) s.has_field.ensures in
    let orientation = o.is_at_most-orientation_well.ensures ∙ ap (λ (b : Bool). at_most b orientation_most a.orientation) o.has_field-2.ensures in
    let pressure = c.is_at_most-pressure_well.ensures ∙ ap (λ (b : Bool). at_most b pressure_most a.pressure) c.has_field-3.ensures in
    (λ i. (((f.is_listed-flags_well.ensures i && p.is_point_well-point_well.ensures i) && sides i) && orientation i) && pressure i)
    ∙ joined (listed a.flags) (place_well a.place.x) (place_well a.place.y) (sides_well (there 1) a.sides) (at_most (there 2) orientation_most a.orientation) (at_most (there 4) pressure_most a.pressure)

-- The parts of the rule for a well-formed contact.
use Rattle.std.specs.Prelude.{Bool, cond, [], ◌∷◌, ℤ}
use Rattle.house.specs.declared.Point.{Point}
use Rattle.well_formed.specs.WellFormed.{all, place_well, side_well, zero?}

-- both coordinates are in range
unfoldable pub point_well : Point → Bool
point_well p = all (place_well p.x ∷ place_well p.y ∷ [])

-- a side that is there is in range, and one that is not is 0
abbrev pub one_side_well : Bool → ℤ → Bool
one_side_well there z = cond there (side_well z) (zero? z)

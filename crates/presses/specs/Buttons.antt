-- Document 02, #105: "a list of buttons, each a rectangle with an item number and a mark for shown or hidden", and which of them a point is in.
use Rattle.std.specs.Prelude.{ℕ, suc, ◌+◌, ◌≡◌, Bool, cond, not, ◌&&◌, List, [], ◌∷◌, eqb, ltb, pos, length, get_or, set}
use Rattle.std.specs.Int.Signed.{lt_z}
use Rattle.house.specs.declared.Point.{Point}
use Rattle.presses.specs.declared.Button.{Button}
use Rattle.presses.specs.declared.Hit.{Hit}

-- a mark of 0 is hidden
abbrev pub is_shown : Button → Bool
is_shown b = not (eqb b.shown 0)

-- "Left and top edges are inside, right and bottom outside."
abbrev pub is_inside : Button → Point → Bool
is_inside b p = not (lt_z p.x b.left) && lt_z p.x b.right && not (lt_z p.y b.top) && lt_z p.y b.bottom

unfoldable pub holds : Button → Point → Bool
holds b p = is_shown b && is_inside b p

-- "A point is in the first shown button that holds it": its place in the list, from 0; the list's length where there is none
unfoldable pub first_holding : List Button → Point → ℕ
first_holding [] p = 0
first_holding (b ∷ bs) p = cond (holds b p) 0 (suc (first_holding bs p))

-- what stands past the end of a list
abbrev pub blank : Button
blank = record { item = 0; left = pos 0; top = pos 0; right = pos 0; bottom = pos 0; shown = 0 }

abbrev pub button_at : List Button → ℕ → Button
button_at bs place = get_or bs place blank

-- "else in none": the number is 0, and otherwise the place plus 1
abbrev pub nowhere : Hit
nowhere = record { number = 0; item = 0 }

-- the button at a place, or none where the list has no such place
abbrev pub hit_of : List Button → ℕ → Hit
hit_of bs place = cond (ltb place (length bs)) (record { number = place + 1; item = (button_at bs place).item }) nowhere

unfoldable pub hit_in : List Button → Point → Hit
hit_in bs p = hit_of bs (first_holding bs p)

-- "The screen shows and hides buttons .., changing that one button in the lent list and no other."
abbrev pub marked : ℕ → Button → Button
marked shown b = record { item = b.item; left = b.left; top = b.top; right = b.right; bottom = b.bottom; shown = shown }

abbrev pub with_shown : List Button → ℕ → ℕ → List Button
with_shown bs place shown = set bs place (marked shown (button_at bs place))

-- the call: the answer is whether there is such a button
pub record SetsShown (bs : List Button) (place shown : ℕ) (there : Bool) (after : List Button) : Type 0 where
  pub answer : there ≡ ltb place (length bs)
  pub list : after ≡ cond (ltb place (length bs)) (with_shown bs place shown) bs

-- Places in a list of buttons: which of them a search ends at, and what is hit there.
-- Assumes nothing.
use Rattle.std.proofs.Common.{◌≡◌, ℕ, suc, ◌≤◌, Bool, true, false, cond, List, [], ◌∷◌, length, refl, sym, ap, ◌∙◌, arith, Some, None, ltb, ltb-false}
use Rattle.std.specs.List.{position_or_len}
use Rattle.std.specs.Option.{unwrap_or}
use Rattle.std.proofs.lemmas.List.Recursion.{is_position_or_len}
use lib.IntN.{ℤ}
use mir.Syntax.{w32}
use mir.Val.{SFits, of_z, to_z}
use Rattle.std.proofs.lemmas.Int.{to_z-of_z}
use Rattle.house.specs.declared.Point.{Point}
use Rattle.presses.specs.Buttons.{holds, first_holding, nowhere, hit_of, hit_in}
use Rattle.presses.specs.Turns.{look_at, hit_at}
use Rattle.presses.specs.declared.Button.{Button}
use Rattle.presses.specs.declared.Look.{Look}

-- THE PLACE that a search ends at, the list's length where it finds none
found-within : (bs : List Button) (p : Point) → first_holding bs p ≤ length bs
unfolding first_holding
found-within [] p = omega arith
found-within (b ∷ bs) p = go (holds b p) (found-within bs p)
  where
    go : (there : Bool) → first_holding bs p ≤ length bs → cond there 0 (suc (first_holding bs p)) ≤ suc (length bs)
    go true h = omega arith
    go false h = omega (arith, h)

found-or : (n m : ℕ) → n ≤ m → unwrap_or (cond (ltb n m) (Some n) None) m ≡ n
found-or n m h = go (ltb n m) refl
  where
    go : (b : Bool) → ltb n m ≡ b → unwrap_or (cond b (Some n) None) m ≡ n
    go true e = refl
    go false e = omega (arith, h, ltb-false _ _ e)

pub first-found : (bs : List Button) (p : Point) → let n = position_or_len (λ b. holds b p) bs in unwrap_or (cond (ltb n (length bs)) (Some n) None) (length bs) ≡ first_holding bs p
unfolding first_holding
first-found bs p =
    let e : first_holding bs p ≡ position_or_len (λ b. holds b p) bs = is_position_or_len (λ l. first_holding l p) (λ b. holds b p) refl (λ b l. ap (cond (holds b p) 0) (omega arith)) bs in
    ap (λ (n : ℕ). unwrap_or (cond (ltb n (length bs)) (Some n) None) (length bs)) (sym e) ∙ found-or (first_holding bs p) (length bs) (found-within bs p)

-- the hit at the place of a point that is looked at, and none where none is
pub hit-due : (bs : List Button) (l : List ℕ) (at : ℕ) (look : Look) (place : ℕ) → look ≡ look_at l at → look.due ≡ true → place ≡ first_holding bs look.point → hit_of bs place ≡ hit_at (hit_in bs) l at
unfolding hit_in hit_at
hit-due bs l at look place e due p =
    ap (hit_of bs) p ∙ ap (λ d. hit_in bs d.point) e ∙ ap (λ t. cond t (hit_in bs (look_at l at).point) nowhere) (sym due ∙ ap (λ d. d.due) e)

pub hit-none : (bs : List Button) (l : List ℕ) (at : ℕ) (look : Look) → look ≡ look_at l at → look.due ≡ false → nowhere ≡ hit_at (hit_in bs) l at
unfolding hit_at
hit-none bs l at look e due = ap (λ t. cond t (hit_in bs (look_at l at).point) nowhere) (sym due ∙ ap (λ d. d.due) e)

abbrev pub record_point : ℤ → ℤ → Point
record_point x y = record { x = x; y = y }

-- a point whose numbers were passed as their bits is the point
pub point-is : (x y : ℤ) → SFits w32 x → SFits w32 y → record_point (to_z w32 (of_z w32 x)) (to_z w32 (of_z w32 y)) ≡ record_point x y
point-is x y fx fy = λ i. record { x = to_z-of_z w32 x fx i; y = to_z-of_z w32 y fy i }

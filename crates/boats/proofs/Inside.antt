-- A contact is in the button at a place exactly where the search answers that place plus 1, and with it that button's item.
-- Assumes nothing.
use Prim.Native.Nat.{ℕ, zero, suc, ◌+◌, ◌<◌}
use mathlib.Core.Path.{◌≡◌, refl, ap, subst}
use mathlib.Core.Bool.{Bool, true, false, cond, and-eq-true_iff}
use mathlib.Core.List.{List, [], ◌∷◌}
use native.Mathlib.Omega.{arith}
use borrow.Author.Tests.{lt-ltb, ltb-true}
use lib.Dec.{ltb}
use lib.ListN.{length}
use Rattle.house.specs.declared.Point.{Point}
use Rattle.presses.specs.Buttons.{holds, button_at, first_holding, nowhere, hit_in}
use Rattle.presses.specs.declared.Button.{Button}
use Rattle.presses.specs.declared.Hit.{Hit}
use Rattle.boats.specs.Meant.{Event, InButton}

-- what is looked at for an event
abbrev pub hit_at : Event → Hit
hit_at e = hit_in e.buttons e.contact.place

-- ---- the first button that holds a point

-- the button at k holds the point, and none before it does
record First (bs : List Button) (p : Point) (k : ℕ) : Type 0 where
  there : k < length bs
  held : holds (button_at bs k) p ≡ true
  first : (before : ℕ) → before < k → holds (button_at bs before) p ≡ false

-- its place is what the search ends at
place_is : (bs : List Button) (p : Point) (k : ℕ) → First bs p k → first_holding bs p ≡ k
unfolding first_holding
place_is [] p k f = absurd (omega (arith, f.there))
place_is (b ∷ bs) p zero f = rw f.held
place_is (b ∷ bs) p (suc k) f =
    rw (f.first 0 (omega arith))
    (ap suc (place_is bs p k (record { there = omega (arith, f.there); held = f.held; first = λ j l. f.first (suc j) (omega (arith, l)) })))

-- and where it ends before the end of the list there is one
first-behind : (b : Button) (bs : List Button) (p : Point) (k : ℕ) → holds b p ≡ false → First bs p k → (before : ℕ) → before < suc k → holds (button_at (b ∷ bs) before) p ≡ false
first-behind b bs p k e f zero l = e
first-behind b bs p k e f (suc j) l = f.first j (omega (arith, l))

first_by : (b : Button) (bs : List Button) (p : Point) (here : Bool) → holds b p ≡ here → (first_holding bs p < length bs → First bs p (first_holding bs p)) → cond here 0 (suc (first_holding bs p)) < suc (length bs)
    → First (b ∷ bs) p (cond here 0 (suc (first_holding bs p)))
first_by b bs p true e more l = record { there = l; held = e; first = λ j m. absurd (omega (arith, m)) }
first_by b bs p false e more l =
    let f = more (omega (arith, l)) in
    record { there = l; held = f.held; first = first-behind b bs p (first_holding bs p) e f }

place-first : (bs : List Button) (p : Point) → first_holding bs p < length bs → First bs p (first_holding bs p)
unfolding first_holding
place-first [] p l = absurd (omega (arith, l))
place-first (b ∷ bs) p l = first_by b bs p (holds b p) refl (place-first bs p) l

-- ---- in a button

in-first : (e : Event) (k : ℕ) → First e.buttons e.contact.place k → InButton e k
unfolding holds
in-first e k f =
    let h = (and-eq-true_iff _ _).0 f.held in
    record { there = f.there; shown = h.0; inside = h.1; first = f.first }

first-in : (e : Event) (k : ℕ) → InButton e k → First e.buttons e.contact.place k
unfolding holds
first-in e k i = record { there = i.there; held = rw i.shown i.inside; first = i.first }

-- a number is the button's at that place
pub number_in : (e : Event) (k : ℕ) → (hit_at e).number ≡ suc k → InButton e k × ((hit_at e).item ≡ (button_at e.buttons k).item)
unfolding hit_in
number_in e k = go (ltb (first_holding e.buttons e.contact.place) (length e.buttons)) refl
  where
    go : (there : Bool) → let q = first_holding e.buttons e.contact.place in let h = cond there (record { number = q + 1; item = (button_at e.buttons q).item }) nowhere in
        ltb q (length e.buttons) ≡ there → h.number ≡ suc k → InButton e k × (h.item ≡ (button_at e.buttons k).item)
    go true t n =
        let q : first_holding e.buttons e.contact.place ≡ k = omega (arith, n) in
        let f = place-first e.buttons e.contact.place (ltb-true _ _ t) in
        (in-first e k (subst (First e.buttons e.contact.place) q f), ap (λ j. (button_at e.buttons j).item) q)
    go false t n = absurd (omega (arith, n))

-- and the other way round
pub in-number : (e : Event) (k : ℕ) → InButton e k → hit_at e ≡ record { number = k + 1; item = (button_at e.buttons k).item }
unfolding hit_in
in-number e k i = rw (place_is e.buttons e.contact.place k (first-in e k i), lt-ltb _ _ i.there)

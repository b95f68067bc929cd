-- A list of marks, one for each id, and what it says of a frame's ids.
-- Assumes nothing.
use Prim.Native.Nat.{ℕ, zero, suc, ◌<◌}
use mathlib.Core.Path.{◌≡◌, refl, sym}
use mathlib.Core.Bool.{Bool, true, false, cond, not}
use mathlib.Core.List.{List, [], ◌∷◌}
use native.Mathlib.Decide.{ℕ_discrete}
use borrow.Author.Tests.{eq-eqb, ne_eqb}
use lib.ListN.{length, get_or, set, replicate}
use lib.Seq.{get_or-set_same, get_or-set_other}
use Rattle.house.specs.declared.Contact.{Contact}
use Rattle.machine.specs.Conforms.{every, other_id, distinct}
use Rattle.machine.proofs.Conforms.{every-both}
use Rattle.contacts.specs.Touch.{touch_view}

abbrev unmarked : List Bool → Contact → Bool
unmarked seen c = not (get_or seen c.id false)

-- none is marked, and no id is there twice
unfoldable pub clear : List Bool → List Contact → Bool
clear seen cs = cond (every (unmarked seen) cs) (distinct touch_view cs) false

-- one mark more
mark : (seen : List Bool) (id : ℕ) → id < length seen → (c : Contact) → unmarked (set seen id true) c ≡ cond (other_id touch_view id c) (unmarked seen c) false
mark seen id h c = go (ℕ_discrete c.id id)
  where
    go : Dec (c.id ≡ id) → unmarked (set seen id true) c ≡ cond (other_id touch_view id c) (unmarked seen c) false
    go (yes e) = rw (e, get_or-set_same seen id true false h, eq-eqb id id refl)
    go (no n) = rw (get_or-set_other seen id c.id true false n, ne_eqb c.id id n)

shift : (o u d : Bool) → cond (cond o u false) d false ≡ cond u (cond o d false) false
shift true u d = refl
shift false true d = refl
shift false false d = refl

-- one turn
pub clear-on : (seen : List Bool) (c : Contact) → c.id < length seen → get_or seen c.id false ≡ false → (cs : List Contact) → clear seen (c ∷ cs) ≡ clear (set seen c.id true) cs
unfolding clear distinct every
clear-on seen c h q cs =
    rw (q, every-both (unmarked (set seen c.id true)) (other_id touch_view c.id) (unmarked seen) (mark seen c.id h) cs)
    (sym (shift (every (other_id touch_view c.id) cs) (every (unmarked seen) cs) (distinct touch_view cs)))

pub clear-off : (seen : List Bool) (c : Contact) → get_or seen c.id false ≡ true → (cs : List Contact) → clear seen (c ∷ cs) ≡ false
unfolding clear every
clear-off seen c q cs = rw q

pub clear-end : (seen : List Bool) → clear seen [] ≡ true
unfolding clear distinct every
clear-end seen = refl

no-mark : (n i : ℕ) → get_or (replicate n false) i false ≡ false
no-mark zero i = refl
no-mark (suc n) zero = refl
no-mark (suc n) (suc i) = no-mark n i

none : (n : ℕ) (cs : List Contact) → every (unmarked (replicate n false)) cs ≡ true
unfolding every
none n [] = refl
none n (c ∷ cs) = rw (no-mark n c.id) (none n cs)

pub clear-start : (n : ℕ) (cs : List Contact) → clear (replicate n false) cs ≡ distinct touch_view cs
unfolding clear
clear-start n cs = rw (none n cs)

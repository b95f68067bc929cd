-- What holds of all events holds of one among them, and of one contact's.
-- Assumes nothing.
use Prim.Native.Nat.{ℕ}
use mathlib.Core.Path.{◌≡◌, refl, ap}
use mathlib.Core.Bool.{Bool, true, false, cond}
use mathlib.Core.List.{List, [], ◌∷◌, ◌++◌}
use lib.Dec.{eqb}
use Rattle.stream.specs.Asked.{All}
use Rattle.boats.specs.Meant.{Event, of_contact}

pub all_both : (P : Event → Type 0) (xs ys : List Event) → All P xs → All P ys → All P (xs ++ ys)
all_both P [] ys h k = k
all_both P (x ∷ xs) ys h k = (h.0, all_both P xs ys h.1 k)

-- one, and those before it
pub all-at : (P : Event → Type 0) (xs : List Event) (e : Event) (ys : List Event) → All P (xs ++ (e ∷ ys)) → All P xs × P e
all-at P [] e ys h = (tt, h.0)
all-at P (x ∷ xs) e ys h = let more = all-at P xs e ys h.1 in ((h.0, more.0), more.1)

-- ---- one contact's

pub all-of-contact : (P : Event → Type 0) (id : ℕ) (es : List Event) → All P es → All P (of_contact id es)
unfolding of_contact
all-of-contact P id [] h = tt
all-of-contact P id (e ∷ es) h = go (all-of-contact P id es h.1) (eqb e.contact.id id)
  where
    go : All P (of_contact id es) → (its : Bool) → All P (cond its (e ∷ of_contact id es) (of_contact id es))
    go more true = (h.0, more)
    go more false = more

pub of-contact-append : (id : ℕ) (xs ys : List Event) → of_contact id (xs ++ ys) ≡ of_contact id xs ++ of_contact id ys
unfolding of_contact
of-contact-append id [] ys = refl
of-contact-append id (e ∷ xs) ys = go (of-contact-append id xs ys) (eqb e.contact.id id)
  where
    go : of_contact id (xs ++ ys) ≡ of_contact id xs ++ of_contact id ys → (its : Bool)
        → cond its (e ∷ of_contact id (xs ++ ys)) (of_contact id (xs ++ ys)) ≡ cond its (e ∷ of_contact id xs) (of_contact id xs) ++ of_contact id ys
    go more true = ap (λ (l : List Event). e ∷ l) more
    go more false = more

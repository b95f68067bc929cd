-- A press that was ended is no choice any more until there is another one.
-- Assumes nothing.
use Prim.Native.Nat.{ℕ}
use mathlib.Core.Path.{◌≡◌, sym, ap, subst, ◌∙◌}
use mathlib.Core.Bool.{Bool, cond}
use mathlib.Core.List.{List, [], ◌∷◌, ◌++◌}
use borrow.Author.Tests.{eq-eqb}
use lib.ListN.{get_or, drop}
use Rattle.stream.specs.Asked.{All}
use Rattle.presses.specs.Choosing.{press, move}
use Rattle.boats.specs.Meant.{Event, flags_of, of_contact, Meant}
use Rattle.boats.proofs.Among.{all-at, of-contact-append}

abbrev NoPress : Event → Type 0
NoPress e = flags_of e ≡ press → ⊥

abbrev Move : Event → Type 0
Move e = flags_of e ≡ move

-- of one contact's records there cannot be the one and the other
module _ (end pressing : Event) (no-press : NoPress end) (no_move : Move end → ⊥) (pressed : flags_of pressing ≡ press) where
  not-both : (xs ys before moves : List Event) → All NoPress ys → All Move moves → xs ++ (end ∷ ys) ≡ before ++ (pressing ∷ moves) → ⊥
  not-both [] ys [] moves n m e = no-press (ap (λ (l : List Event). flags_of (get_or l 0 end)) e ∙ pressed)
  not-both [] ys (b ∷ before) moves n m e = (all-at NoPress before pressing moves (subst (All NoPress) (ap (drop 1) e) n)).1 pressed
  not-both (x ∷ xs) ys [] moves n m e = no_move (all-at Move xs end ys (subst (All Move) (sym (ap (drop 1) e)) m)).1
  not-both (x ∷ xs) ys (b ∷ before) moves n m e = not-both xs ys before moves n m (ap (drop 1) e)

pub ended-press : (xs : List Event) (end : Event) (ys : List Event) (lift : Event) (item : ℕ) → end.contact.id ≡ lift.contact.id
    → NoPress end → (Move end → ⊥) → All NoPress (of_contact lift.contact.id ys) → Meant (xs ++ (end ∷ ys)) lift item → ⊥
unfolding of_contact
ended-press xs end ys lift item same no-press no_move n m =
    let id = lift.contact.id in
    let own : of_contact id (end ∷ ys) ≡ end ∷ of_contact id ys = ap (λ (its : Bool). cond its (end ∷ of_contact id ys) (of_contact id ys)) (eq-eqb _ _ same) in
    not-both end m.pressing no-press no_move m.pressed (of_contact id xs) (of_contact id ys) m.before m.moves n m.engaged
    (sym (of-contact-append id xs (end ∷ ys) ∙ ap (λ (l : List Event). of_contact id xs ++ l) own) ∙ m.records)

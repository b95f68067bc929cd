-- Document 01, "Contact states": "A frame conforms when no id is in it twice, each contact is legal from its state before the frame, positions
-- obey the rule, and at most maxTouchContacts contacts are active after it."
use Rattle.std.specs.Prelude.{ℕ, Bool, true, false, cond, not, List, [], ◌∷◌, eqb, leb}
use Rattle.tables.specs.Same.{same_number}
use Rattle.states.specs.Table.{out, illegal}
use Rattle.house.specs.declared.Point.{Point}
use Rattle.machine.specs.Table.{Table, state_at, place_at, with_contact, origin, count_active}
use Rattle.machine.specs.Rules.{View, Rules}

-- every one of a list passes
unfoldable pub every : {A : Type 0} → (A → Bool) → List A → Bool
every p [] = true
every p (a ∷ more) = cond (p a) (every p more) false

-- "With 0x0C, 0x04 and 0x24 the position must be the stored one."
abbrev pub lifts : ℕ → Bool
lifts f = cond (eqb f 0x0C) true (cond (eqb f 0x04) true (eqb f 0x24))

abbrev pub same_place : Point → Point → Bool
same_place p q = cond (same_number p.x q.x) (same_number p.y q.y) false

-- "An injected contact's position is stored with its state. A contact out of range has position 0, 0."
abbrev pub place_in : ℕ → Point → Point
place_in s p = cond (eqb s out) origin p

module _ {C : Type 0} (view : View C) where
  -- "no id is in it twice"
  abbrev pub other_id : ℕ → C → Bool
  other_id id c = not (eqb (view.id c) id)

  unfoldable pub distinct : List C → Bool
  distinct [] = true
  distinct (c ∷ cs) = cond (every (other_id (view.id c)) cs) (distinct cs) false

  -- the state that a contact's flags lead to from its state in the table
  abbrev pub next_of : (ℕ → ℕ → ℕ) → Table → C → ℕ
  next_of next t c = next (view.flags c) (state_at t (view.id c))

  -- "each contact is legal from its state before the frame"
  abbrev pub legal : (ℕ → ℕ → ℕ) → Table → C → Bool
  legal next t c = not (eqb (next_of next t c) illegal)

  -- "positions obey the rule"
  abbrev pub stays : Table → C → Bool
  stays t c = cond (lifts (view.flags c)) (same_place (view.place c) (place_at t (view.id c))) true

  unfoldable pub moved : (ℕ → ℕ → ℕ) → Table → C → Table
  moved next t c = with_contact t (view.id c) (next_of next t c) (place_in (next_of next t c) (view.place c))

  -- what a frame's contacts leave, one after the other
  unfoldable pub table_after : (ℕ → ℕ → ℕ) → Table → List C → Table
  table_after next t [] = t
  table_after next t (c ∷ cs) = table_after next (moved next t c) cs

  -- "at most maxTouchContacts contacts are active after it"
  abbrev pub few : Rules C → Table → List C → Bool
  few rules t cs = leb (count_active (table_after rules.next t cs).states) rules.most

  unfoldable pub conforms : Rules C → Table → List C → Bool
  conforms rules t cs =
      cond (distinct cs)
      (cond (every (legal rules.next t) cs)
      (cond (every (stays t) cs)
      (cond (every rules.passes cs) (few rules t cs) false)
      false)
      false)
      false

-- Document 02, #106: the set of ids that is kept while ignoring, and which frames are opening. "Outside ignoring the set is empty."
use Rattle.std.specs.Prelude.{ℕ, Bool, true, false, cond, not, List, [], ◌∷◌, map, eqb, get_or, set, replicate}
use Rattle.machine.specs.Table.{Table, contacts, active, one}
use Rattle.machine.specs.Rules.{View}
use Rattle.machine.specs.Conforms.{every}

-- ---- the set, as marks: an id is in it where its mark is not 0

unfoldable pub is_held : List ℕ → ℕ → Bool
is_held held id = not (eqb (get_or held id 0) 0)

unfoldable pub nobody : List ℕ
nobody = replicate contacts 0

-- "those active at the cancel"
unfoldable pub active_ids : Table → List ℕ
active_ids t = map (λ s. one (active s)) t.states

-- "0x02, 0x22, 0x04 or 0x24"
abbrev pub leaving : ℕ → Bool
leaving f = cond (eqb f 0x02) true (cond (eqb f 0x22) true (cond (eqb f 0x04) true (eqb f 0x24)))

-- "An id leaves .. by a dismissal."
unfoldable pub held_without : List ℕ → ℕ → List ℕ
held_without held id = set held id 0

module _ {C : Type 0} (view : View C) where
  -- a contact of an ignored or offending frame: its id joins, and leaves with those flags
  unfoldable pub with_listing : List ℕ → C → List ℕ
  with_listing held c = set held (view.id c) (one (not (leaving (view.flags c))))

  -- such a frame: "An id leaves when [it] lists it last with" them, so that a later listing overrules an earlier one
  unfoldable pub held_after : List ℕ → List C → List ℕ
  held_after held [] = held
  held_after held (c ∷ cs) = held_after (with_listing held c) cs

  -- ---- a frame that is opening

  abbrev pub is_down : C → Bool
  is_down c = eqb (view.flags c) 0x19

  abbrev pub is_hover : C → Bool
  is_hover c = eqb (view.flags c) 0x0A

  -- "0x19 or 0x0A with no id in the set"
  abbrev pub is_free : List ℕ → C → Bool
  is_free held c = cond (cond (is_down c) true (is_hover c)) (not (is_held held (view.id c))) false

  -- "A frame is opening if it has a contact and either all are 0x19, or all are 0x19 or 0x0A with no id in the set."
  unfoldable pub opening : List ℕ → List C → Bool
  opening held [] = false
  opening held (c ∷ cs) = cond (every is_down (c ∷ cs)) true (every (is_free held) (c ∷ cs))

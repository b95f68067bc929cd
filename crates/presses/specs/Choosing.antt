-- Document 02, #105: which records are taken, what is kept of them from call to call, and which choices they are. All of it is over what a point is
-- in, so that it says nothing of how buttons are kept.
use Rattle.std.specs.Prelude.{ℕ, ◌-◌, ◌≡◌, Bool, true, false, cond, not, List, [], ◌∷◌, ◌++◌, eqb, leb, pos, length, get_or, set, replicate}
use Rattle.paper.specs.Refusals.{none, no_room, bad_record}
use Rattle.slices.specs.Writing.{laid}
use Rattle.states.specs.Table.{out, illegal, next}
use Rattle.house.specs.Layout.{touched, record_of}
use Rattle.house.specs.Records as house
use Rattle.house.specs.declared.Point.{Point}
use Rattle.house.specs.declared.Contact.{Contact}
use Rattle.house.specs.declared.Record.{Record}
use Rattle.well_formed.specs.WellFormed.{all, well_formed}
use Rattle.presses.specs.declared.Label.{Label}
use Rattle.presses.specs.declared.Hit.{Hit}
use Rattle.presses.specs.declared.Chosen.{Chosen}

-- "Each contact's state and pressed button are kept from call to call; at first all are out."
unfoldable pub fresh_label : Label
fresh_label = record { states = replicate 256 out; pressed = replicate 256 0 }

-- ---- "14 for records that are not well formed (kinds 2 and 3 between frames) or break the state table"

abbrev pub records_in : List ℕ → List Record
records_in l = house.records_in record_of l

-- each record is whole and well formed
abbrev pub all_well : List ℕ → Bool
all_well l = all (house.records_in well_formed l)

-- inside a frame only its contacts are due, and between frames none of them
abbrev pub is_due : ℕ → ℕ → Bool
is_due due kind = cond (eqb due 0) (not (eqb kind touched)) (eqb kind touched)

abbrev pub may_stand : ℕ → Record → Bool
may_stand due (Record.Head h) = eqb due 0
may_stand due (Record.Contact kind c) = is_due due kind
may_stand due (Record.Refused e) = false

abbrev pub due_after : ℕ → Record → ℕ
due_after due (Record.Head h) = h.count
due_after due (Record.Contact kind c) = due - 1
due_after due (Record.Refused e) = due

-- a head is followed by its count of contacts: so many are still due of a frame
unfoldable pub in_frames : ℕ → List Record → Bool
in_frames due [] = eqb due 0
in_frames due (r ∷ rs) = cond (may_stand due r) (in_frames (due_after due r) rs) false

-- the state that a contact's flags lead to, or illegal
abbrev pub state_after : List ℕ → Contact → ℕ
state_after states c = next c.flags (get_or states c.id out)

abbrev pub is_legal : List ℕ → Record → Bool
is_legal states (Record.Head h) = true
is_legal states (Record.Contact kind c) = not (eqb (state_after states c) illegal)
is_legal states (Record.Refused e) = false

unfoldable pub states_after : List ℕ → Record → List ℕ
states_after states (Record.Head h) = states
states_after states (Record.Contact kind c) = set states c.id (state_after states c)
states_after states (Record.Refused e) = states

-- each contact goes by the state table, from the state that its last record left
unfoldable pub by_table : List ℕ → List Record → Bool
by_table states [] = true
by_table states (r ∷ rs) = cond (is_legal states r) (by_table (states_after states r) rs) false

-- records of which so many contacts are still due of a frame
unfoldable pub is_taken_from : ℕ → List ℕ → List ℕ → Bool
is_taken_from due states l = all (all_well l ∷ in_frames due (records_in l) ∷ by_table states (records_in l) ∷ [])

abbrev pub is_taken : List ℕ → List ℕ → Bool
is_taken states l = is_taken_from 0 states l

-- ---- "A choice is a contact that goes engaged inside one shown button and ends that by 0x04 or 0x0C inside the same one, then shown too, with no
-- cancel between.": theorem `boats · Every · every-choice` says that what follows is this sentence

-- "Choices, each a contact id and an item number"
pub record Choice : Type 0 where
  pub id : ℕ
  pub item : ℕ

-- "goes engaged"
abbrev pub press : ℕ
press = 0x19

-- stays engaged
abbrev pub move : ℕ
move = 0x1A

-- "ends that by 0x04 or 0x0C"
abbrev pub is_lift : ℕ → Bool
is_lift flags = cond (eqb flags 0x04) true (eqb flags 0x0C)

-- "Only press (0x19) and lift (0x04, 0x0C) look at buttons"
abbrev pub looks : ℕ → Bool
looks flags = cond (eqb flags press) true (is_lift flags)

-- the number of the button that a contact has pressed after flags in the button h: a press, a move, and anything else ends it
abbrev pub pressed_after : ℕ → Hit → ℕ → ℕ
pressed_after flags h pressed = cond (eqb flags press) h.number (cond (eqb flags move) pressed 0)

-- a lift in the button that was pressed
abbrev pub is_choice : ℕ → Hit → ℕ → Bool
is_choice flags h pressed = cond (is_lift flags) (cond (eqb pressed 0) false (eqb h.number pressed)) false

-- the same of a record that looks at the button h
unfoldable pub pressed_in : Hit → List ℕ → Record → List ℕ
pressed_in h pressed (Record.Head _) = pressed
pressed_in h pressed (Record.Contact kind c) = set pressed c.id (pressed_after c.flags h (get_or pressed c.id 0))
pressed_in h pressed (Record.Refused e) = pressed

abbrev pub record_kept : Hit → Label → Record → Label
record_kept h l r = record { states = states_after l.states r; pressed = pressed_in h l.pressed r }

abbrev pub contact_chosen : Hit → List ℕ → Contact → List Choice
contact_chosen h pressed c = cond (is_choice c.flags h (get_or pressed c.id 0)) (record { id = c.id; item = h.item } ∷ []) []

unfoldable pub record_chosen : Hit → List ℕ → Record → List Choice
record_chosen h pressed (Record.Head _) = []
record_chosen h pressed (Record.Contact kind c) = contact_chosen h pressed c
record_chosen h pressed (Record.Refused e) = []

abbrev pub point_of : Record → Point
point_of (Record.Head h) = record { x = pos 0; y = pos 0 }
point_of (Record.Contact kind c) = c.place
point_of (Record.Refused e) = record { x = pos 0; y = pos 0 }

-- records one after the other, over what a point is in: what is kept of them, and the choices in their order
module _ (hit : Point → Hit) where
  unfoldable pub kept_of : Label → List Record → Label
  kept_of l [] = l
  kept_of l (r ∷ rs) = kept_of (record_kept (hit (point_of r)) l r) rs

  unfoldable pub chosen_in : Label → List Record → List Choice
  chosen_in l [] = []
  chosen_in l (r ∷ rs) = record_chosen (hit (point_of r)) l.pressed r ++ chosen_in (record_kept (hit (point_of r)) l r) rs

-- ---- the call

-- choices as numbers, two for each
unfoldable pub numbers_of : List Choice → List ℕ
numbers_of [] = []
numbers_of (c ∷ cs) = c.id ∷ c.item ∷ numbers_of cs

-- what the call refuses with, or none: "14 for records that ..., 13 for too little room for the choices"
unfoldable pub refusal_of : (Point → Hit) → Label → List ℕ → ℕ → ℕ
refusal_of hit l records room =
    cond (is_taken l.states records)
    (cond (leb (length (numbers_of (chosen_in hit l (records_in records)))) room) none no_room)
    bad_record

-- "either changes nothing"
abbrev pub decided : ℕ → Label → Label → List Choice → Chosen
decided e before after cs = cond (eqb e none) (record { label = after; refusal = none; count = length cs }) (record { label = before; refusal = e; count = 0 })

abbrev pub list_after : ℕ → List ℕ → List Choice → List ℕ
list_after e before cs = cond (eqb e none) (laid before (numbers_of cs)) before

-- THE CONTRACT: of the label l and records, with a list of choices that held `before`
pub record Chooses (hit : Point → Hit) (l : Label) (records : List ℕ) (x : Chosen) (before after : List ℕ) : Type 0 where
  pub answer : x ≡ decided (refusal_of hit l records (length before)) l (kept_of hit l (records_in records)) (chosen_in hit l (records_in records))
  pub output : after ≡ list_after (refusal_of hit l records (length before)) before (chosen_in hit l (records_in records))

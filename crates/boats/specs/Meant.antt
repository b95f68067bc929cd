-- Document 02, #105: "A choice is a contact that goes engaged inside one shown button and ends that by 0x04 or 0x0C inside the same one, then shown
-- too, with no cancel between.", over that contact's records alone.
use Rattle.std.specs.Prelude.{ℕ, ◌<◌, ◌≡◌, true, false, cond, List, [], ◌∷◌, ◌++◌, eqb, length}
use Rattle.house.specs.declared.Contact.{Contact}
use Rattle.house.specs.declared.Record.{Record}
use Rattle.house.specs.declared.Record.TheVariants as Record
use Rattle.stream.specs.Asked.{All}
use Rattle.presses.specs.Buttons.{is_shown, is_inside, holds, button_at}
use Rattle.presses.specs.Choosing.{Choice, press, move, is_lift}
use Rattle.presses.specs.declared.Button.{Button}

-- a contact's record, and the buttons as they were lent with it
pub record Event : Type 0 where
  pub buttons : List Button
  pub contact : Contact

abbrev pub flags_of : Event → ℕ
flags_of e = e.contact.flags

-- the contacts among records, of whatever kind: a frame's, a cancel's, a dismissal's
unfoldable pub events_in : List Button → List Record → List Event
events_in bs [] = []
events_in bs (Record.Head h ∷ rs) = events_in bs rs
events_in bs (Record.Contact kind c ∷ rs) = record { buttons = bs; contact = c } ∷ events_in bs rs
events_in bs (Record.Refused e ∷ rs) = events_in bs rs

-- the records of one contact alone
unfoldable pub of_contact : ℕ → List Event → List Event
of_contact id [] = []
of_contact id (e ∷ es) = cond (eqb e.contact.id id) (e ∷ of_contact id es) (of_contact id es)

-- "A point is in the first shown button that holds it, at press and at lift": the contact is in the button at a place of the list
pub record InButton (e : Event) (place : ℕ) : Type 0 where
  pub there : place < length e.buttons
  pub shown : is_shown (button_at e.buttons place) ≡ true
  pub inside : is_inside (button_at e.buttons place) e.contact.place ≡ true
  pub first : (before : ℕ) → before < place → holds (button_at e.buttons before) e.contact.place ≡ false

-- after all that was past, `lift` is the choice of an item
pub record Meant (past : List Event) (lift : Event) (item : ℕ) : Type 0 where
  pub place : ℕ
  pub before : List Event
  pub pressing : Event
  pub moves : List Event
  -- of that contact's records: a press, then nothing but moves, and then the lift
  pub records : of_contact lift.contact.id past ≡ before ++ (pressing ∷ moves)
  pub pressed : flags_of pressing ≡ press
  pub engaged : All (λ e. flags_of e ≡ move) moves
  pub lifted : is_lift (flags_of lift) ≡ true
  -- both in the same button, as it was at each
  pub pressed_in : InButton pressing place
  pub lifted_in : InButton lift place
  pub named : item ≡ (button_at lift.buttons place).item

-- "Choices, each a contact id and an item number, are answered in record order": those of the events after what was past, and no others
pub data Answered : List Event → List Event → List Choice → Type 0 where
  ends : (past : List Event) → Answered past [] []
  chose : (past : List Event) (e : Event) (item : ℕ) (es : List Event) (cs : List Choice) → Meant past e item → Answered (past ++ (e ∷ [])) es cs
      → Answered past (e ∷ es) (record { id = e.contact.id; item = item } ∷ cs)
  no_choice : (past : List Event) (e : Event) (es : List Event) (cs : List Choice) → ((item : ℕ) → Meant past e item → ⊥) → Answered (past ++ (e ∷ [])) es cs
      → Answered past (e ∷ es) cs

-- Calls of one label, one after the other, with buttons shown and hidden between them, and what they choose.
use Rattle.std.specs.Prelude.{ℕ, zero, suc, ◌<◌, ◌≡◌, Bool, true, cond, List, [], ◌∷◌, ◌++◌, eqb, length, get_or, drop}
use Rattle.paper.specs.Refusals.{none}
use Rattle.presses.specs.Buttons.{is_shown, button_at, marked, hit_in, SetsShown}
use Rattle.presses.specs.Choosing.{Choice, fresh_label, records_in, move, press, Chooses}
use Rattle.presses.specs.declared.Button.{Button}
use Rattle.presses.specs.declared.Label.{Label}
use Rattle.presses.specs.declared.Chosen.{Chosen}
use Rattle.stream.specs.Asked.{All}
use Rattle.boats.specs.Meant.{Event, flags_of, events_in, of_contact, Meant, Answered}

-- ---- calls

-- a call: the buttons and the records that it was lent, what it answered, and the list of choices before and after it
pub record LabelCall : Type 0 where
  pub buttons : List Button
  pub records : List ℕ
  pub chosen : Chosen
  pub before : List ℕ
  pub after : List ℕ

-- calls one after the other, the first of them with the label l: the contract allows each
unfoldable pub LabelCalls : Label → List LabelCall → Type 0
LabelCalls l [] = Unit
LabelCalls l (c ∷ cs) = Chooses (hit_in c.buttons) l c.records c.chosen c.before c.after × LabelCalls c.chosen.label cs

-- the label that they leave
unfoldable pub last_label : Label → List LabelCall → Label
last_label l [] = l
last_label l (c ∷ cs) = last_label c.chosen.label cs

-- the choices that a call answered: the first numbers of the list that it left, two for each
unfoldable pub choices_at : ℕ → List ℕ → List Choice
choices_at zero l = []
choices_at (suc n) l = record { id = get_or l 0 0; item = get_or l 1 0 } ∷ choices_at n (drop 2 l)

abbrev pub choices_of : LabelCall → List Choice
choices_of c = choices_at c.chosen.count c.after

unfoldable pub all_chosen : List LabelCall → List Choice
all_chosen [] = []
all_chosen (c ∷ cs) = choices_of c ++ all_chosen cs

-- "either changes nothing": of a call that is refused no record was taken
unfoldable pub events_of : List LabelCall → List Event
events_of [] = []
events_of (c ∷ cs) = cond (eqb c.chosen.refusal none) (events_in c.buttons (records_in c.records)) [] ++ events_of cs

-- ---- "The screen shows and hides buttons between frames, changing that one button in the lent list and no other."

-- what a call of set_shown leaves of each button
pub record ChangesOne (bs : List Button) (place shown : ℕ) (after : List Button) : Type 0 where
  pub same : length after ≡ length bs
  pub that : place < length bs → button_at after place ≡ marked shown (button_at bs place)
  pub others : (other : ℕ) → (other ≡ place → ⊥) → button_at after other ≡ button_at bs other

-- a list as calls of set_shown leave it
pub data MarkedFrom : List Button → List Button → Type 0 where
  as_it_was : (bs : List Button) → MarkedFrom bs bs
  then_marked : (bs cs ds : List Button) (place shown : ℕ) (there : Bool) → MarkedFrom bs cs → SetsShown cs place shown there ds → MarkedFrom bs ds

-- each call is lent the list as calls of set_shown have left it
unfoldable pub OnOneList : List Button → List LabelCall → Type 0
OnOneList bs [] = Unit
OnOneList bs (c ∷ cs) = MarkedFrom bs c.buttons × OnOneList c.buttons cs

-- ---- WHAT IS PROVED, over any sequence of calls from a fresh label

pub record EveryChoice : Type 0 where
  -- the choices that were answered are exactly document 02's, in record order
  pub exactly : (h : List LabelCall) → LabelCalls fresh_label h → Answered [] (events_of h) (all_chosen h)
  -- and there is no other list of choices that is
  pub only : (past es : List Event) (cs ds : List Choice) → Answered past es cs → Answered past es ds → cs ≡ ds
  -- set_shown changes one button
  pub one : (bs : List Button) (place shown : ℕ) (there : Bool) (after : List Button) → SetsShown bs place shown there after → ChangesOne bs place shown after
  -- a choice names an item that was shown at its press and at its lift
  pub shown : (bs : List Button) (h : List LabelCall) → OnOneList bs h → (past : List Event) (e : Event) (es : List Event) (item : ℕ)
      → events_of h ≡ past ++ (e ∷ es) → (m : Meant past e item)
      → ((button_at m.pressing.buttons m.place).item ≡ item) × (is_shown (button_at m.pressing.buttons m.place) ≡ true)
  -- a press that was ended, by a cancel or in any other way, is no choice any more: not until there is another press
  pub ended : (xs : List Event) (end : Event) (ys : List Event) (lift : Event) (item : ℕ) → end.contact.id ≡ lift.contact.id
      → (flags_of end ≡ press → ⊥) → (flags_of end ≡ move → ⊥) → All (λ e. flags_of e ≡ press → ⊥) (of_contact lift.contact.id ys)
      → Meant (xs ++ (end ∷ ys)) lift item → ⊥
  -- records of other contacts change nothing of it
  pub alone : (past others : List Event) (lift : Event) (item : ℕ) → of_contact lift.contact.id past ≡ of_contact lift.contact.id others → Meant past lift item → Meant others lift item

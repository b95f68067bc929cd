-- What a turn over a record comes to.
-- Assumes nothing.
use Rattle.std.proofs.Common.{◌≡◌, ℕ, Bool, true, false, cond, List, [], ◌∷◌, length, get_or, drop, set, sym, refl, ap, ◌∙◌}
use Rattle.states.specs.Table.{out, next}
use Rattle.house.specs.Layout.{record_of}
use Rattle.house.specs.declared.Contact.{Contact}
use Rattle.house.specs.declared.Record.{Record}
use Rattle.presses.specs.declared.Hit.{Hit}
use Rattle.presses.specs.declared.Tally.{Tally}
use Rattle.presses.specs.Choosing.{Choice, is_choice, pressed_after, states_after, pressed_in, record_chosen, point_of}
use Rattle.presses.specs.Turns.{looks_in, no_look, look_at, Went, went_to, count_on, tallied, put_choices, TakesContact, turned_by, went_on, next_at}

-- ---- what a record looks at

pub look-of : (l : List ℕ) (at : ℕ) (r : Record) → record_of (drop at l) ≡ r → look_at l at ≡ record { due = looks_in r; point = point_of r }
unfolding look_at
look-of l at r e = rw e refl

-- that a record is no contact
abbrev pub NoContact : Record → Type 0
NoContact r = (kind : ℕ) → (c : Contact) → r ≡ Record.Contact kind c → ⊥

pub look-none : (l : List ℕ) (at : ℕ) (r : Record) → r ≡ record_of (drop at l) → NoContact r → no_look ≡ look_at l at
look-none l at (Record.Head x) e n = sym (look-of l at (Record.Head x) (sym e))
look-none l at (Record.Contact kind c) e n = absurd (n kind c refl)
look-none l at (Record.Refused x) e n = sym (look-of l at (Record.Refused x) (sym e))

-- ---- a choice or none

counted_if : (chose : Bool) (c : Choice) (n : ℕ) → tallied (cond chose (c ∷ []) []) n ≡ count_on chose n
unfolding tallied
counted_if true c n = refl
counted_if false c n = refl

-- ---- turns

went-by : (h : Hit) (l : List ℕ) (writing : Bool) (w : Went) (r : Record) → record_of (drop w.run.at l) ≡ r → went_on h l writing w ≡ turned_by h r (next_at (length l) w.run.at) writing w
unfolding went_on
went-by h l writing w r e = ap (λ x. turned_by h x (next_at (length l) w.run.at) writing w) e

-- a contact's kind is not looked at
pub went-contact : (h : Hit) (l : List ℕ) (writing : Bool) (w : Went) (kind : ℕ) (c : Contact) → record_of (drop w.run.at l) ≡ Record.Contact kind c
    → went_on h l writing w ≡ turned_by h (Record.Contact 1 c) (next_at (length l) w.run.at) writing w
unfolding turned_by record_chosen states_after pressed_in
went-contact h l writing w kind c e = went-by h l writing w (Record.Contact kind c) e

-- and no other record does anything
abbrev pub passed_by : Went → ℕ → Went
passed_by w n = record { run = record { label = w.run.label; at = n; count = w.run.count }; out = w.out }

pub went-none : (h : Hit) (l : List ℕ) (writing : Bool) (w : Went) (r : Record) → r ≡ record_of (drop w.run.at l) → NoContact r → passed_by w (next_at (length l) w.run.at) ≡ went_on h l writing w
unfolding turned_by record_chosen states_after pressed_in put_choices tallied
went-none h l writing w (Record.Head x) e n = sym (went-by h l writing w (Record.Head x) (sym e))
went-none h l writing w (Record.Contact kind c) e n = absurd (n kind c refl)
went-none h l writing w (Record.Refused x) e n = sym (went-by h l writing w (Record.Refused x) (sym e))

-- what becomes of a contact, part by part
pub taken_is : (h : Hit) (c : Contact) (writing : Bool) (before : ℕ) (chose : Bool) (after : ℕ) (s s' p p' o o' : List ℕ)
    → chose ≡ is_choice c.flags h (get_or p c.id 0) → s' ≡ set s c.id (next c.flags (get_or s c.id out)) → p' ≡ set p c.id (pressed_after c.flags h (get_or p c.id 0))
    → after ≡ count_on chose before → o' ≡ put_choices writing before (cond chose (record { id = c.id; item = h.item } ∷ []) []) o → TakesContact h c writing before after s s' p p' o o'
unfolding states_after pressed_in
taken_is h c writing before chose after s s' p p' o o' e es ep en eo =
    let x : Choice = record { id = c.id; item = h.item } in
    record {
      states = es;
      pressed = ep;
      count = en ∙ sym (counted_if chose x before) ∙ ap (λ (b : Bool). tallied (cond b (x ∷ []) []) before) e;
      choices = eo ∙ ap (λ (b : Bool). put_choices writing before (cond b (x ∷ []) []) o) e;
    }

pub turned-is : (h : Hit) (c : Contact) (n : ℕ) (writing : Bool) (t : Tally) (after : ℕ) (s s' p p' o o' : List ℕ) → TakesContact h c writing t.count after s s' p p' o o'
    → went_to s' p' (record { at = n; count = after }) o' ≡ turned_by h (Record.Contact 1 c) n writing (went_to s p t o)
unfolding turned_by record_chosen
turned-is h c n writing t after s s' p p' o o' k = λ i. went_to (k.states i) (k.pressed i) (record { at = n; count = k.count i }) (k.choices i)

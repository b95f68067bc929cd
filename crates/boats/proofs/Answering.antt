-- The choices that calls answer are those of their events: what a label keeps of each contact is what the contact's own records say.
-- Assumes nothing.
use Prim.Native.Nat.{ℕ, ◌+◌, ◌<◌}
use mathlib.Core.Path.{◌≡◌, refl, sym, ap, subst, ◌∙◌}
use mathlib.Core.Bool.{Bool, true, false, cond}
use mathlib.Core.List.{List, [], ◌∷◌, ◌++◌, append-nil}
use native.Mathlib.Omega.{arith}
use borrow.Author.Tests.{leb-true, leb-false, eqb-true, eqb-false}
use lib.Dec.{eqb, leb}
use lib.ListN.{length, get_or, set, replicate, length-set, length-replicate, get_or-replicate, get_or-eq_default}
use lib.Seq.{get_or-set_same, get_or-set_other}
use Rattle.house.specs.declared.Contact.{Contact}
use Rattle.house.specs.declared.Record.{Record}
use Rattle.house.specs.declared.Record.TheVariants as Record
use Rattle.well_formed.proofs.WellFormed.{never}
use Rattle.machine.specs.Table.{contacts}
use Rattle.stream.specs.Asked.{All}
use Rattle.presses.specs.Buttons.{nowhere, hit_in}
use Rattle.presses.specs.Choosing.{Choice, fresh_label, pressed_after, is_choice, pressed_in, record_kept, record_chosen, kept_of, chosen_in}
use Rattle.presses.specs.declared.Button.{Button}
use Rattle.presses.specs.declared.Label.{Label}
use Rattle.boats.specs.Meant.{Event, flags_of, events_in, of_contact, Answered, chose, no_choice}
use Rattle.boats.proofs.Ids.{Small}
use Rattle.boats.proofs.Among.{of-contact-append}
use Rattle.boats.proofs.Inside.{hit_at}
use Rattle.boats.proofs.Held.{held, held-append, choice, chosen-meant, meant-chosen}

-- ---- what is kept

-- of each contact the number that its records say
pub record Keeps (past : List Event) (pressed : List ℕ) : Type 0 where
  pub long : length pressed ≡ contacts
  pub each : (id : ℕ) → get_or pressed id 0 ≡ held 0 (of_contact id past)

abbrev pressed_on : List ℕ → Event → List ℕ
pressed_on pressed e = set pressed e.contact.id (pressed_after (flags_of e) (hit_at e) (get_or pressed e.contact.id 0))

module _ (past : List Event) (e : Event) (pressed : List ℕ) (k : Keeps past pressed) (byte : e.contact.id < contacts) where
  its_own : let id = e.contact.id in get_or (pressed_on pressed e) id 0 ≡ held 0 (of_contact id past ++ (e ∷ []))
  unfolding held
  its_own =
      let id = e.contact.id in
      get_or-set_same pressed id _ 0 (omega (arith, byte, k.long))
      ∙ (ap (λ n. pressed_after (flags_of e) (hit_at e) n) (k.each id) ∙ sym (held-append 0 (of_contact id past) (e ∷ [])))

  each_on : (id : ℕ) (its : Bool) → eqb e.contact.id id ≡ its → get_or (pressed_on pressed e) id 0 ≡ held 0 (of_contact id past ++ cond its (e ∷ []) [])
  each_on id true i = subst (λ j. get_or (pressed_on pressed e) j 0 ≡ held 0 (of_contact j past ++ (e ∷ []))) (eqb-true _ _ i) its_own
  each_on id false i =
      get_or-set_other pressed e.contact.id id _ 0 (λ x. eqb-false _ _ i (sym x)) ∙ (k.each id ∙ ap (held 0) (sym (append-nil (of_contact id past))))

  keeps_on : Keeps (past ++ (e ∷ [])) (pressed_on pressed e)
  unfolding of_contact
  keeps_on =
      record {
        long = length-set pressed e.contact.id _ ∙ k.long;
        each = λ id. each_on id (eqb e.contact.id id) refl ∙ ap (held 0) (sym (of-contact-append id past (e ∷ [])));
      }

abbrev unpressed : List ℕ
unpressed = replicate contacts 0

none-at : (id : ℕ) (past : Bool) → leb contacts id ≡ past → get_or unpressed id 0 ≡ 0
none-at id true e = get_or-eq_default unpressed 0 {n = id} (rw (length-replicate {A = ℕ} contacts 0) (leb-true _ _ e))
none-at id false e = get_or-replicate contacts id 0 0 (leb-false _ _ e)

pub keeps-fresh : Keeps [] fresh_label.pressed
unfolding fresh_label of_contact held
keeps-fresh = record { long = length-replicate {A = ℕ} contacts 0; each = λ id. none-at id (leb contacts id) refl }

-- ---- records

module _ (bs : List Button) where
  answered-contact : (past : List Event) (c : Contact) (es : List Event) (cs ds : List Choice) (chosen : Bool) → let e : Event = record { buttons = bs; contact = c } in
      choice past e ≡ chosen → Answered (past ++ (e ∷ [])) es (cs ++ ds) → Answered past (e ∷ es) (cond chosen (record { id = c.id; item = (hit_at e).item } ∷ []) [] ++ cs ++ ds)
  answered-contact past c es cs ds true h a = chose past _ _ es (cs ++ ds) (chosen-meant past _ h) a
  answered-contact past c es cs ds false h a = no_choice past _ es (cs ++ ds) (λ item m. never (meant-chosen past _ item m).0 h) a

  -- and whatever comes after them
  pub answered-records : (rs : List Record) → All Small rs → (past : List Event) (l : Label) → Keeps past l.pressed → (es : List Event) (cs : List Choice)
      → ((more : List Event) → Keeps more (kept_of (hit_in bs) l rs).pressed → Answered more es cs) → Answered past (events_in bs rs ++ es) (chosen_in (hit_in bs) l rs ++ cs)
  unfolding events_in chosen_in kept_of record_chosen pressed_in
  answered-records [] b past l k es cs next = next past k
  answered-records (Record.Head h ∷ rs) b past l k es cs next = answered-records rs b.1 past (record_kept nowhere l (Record.Head h)) k es cs next
  answered-records (Record.Refused n ∷ rs) b past l k es cs next = answered-records rs b.1 past (record_kept nowhere l (Record.Refused n)) k es cs next
  answered-records (Record.Contact kind c ∷ rs) b past l k es cs next =
      let e : Event = record { buttons = bs; contact = c } in
      let after : Label = record_kept (hit_at e) l (Record.Contact kind c) in
      answered-contact past c (events_in bs rs ++ es) (chosen_in (hit_in bs) after rs) cs _ (ap (is_choice (flags_of e) (hit_at e)) (sym (k.each c.id)))
      (answered-records rs b.1 (past ++ (e ∷ [])) after (keeps_on past e l.pressed k b.0) es cs next)

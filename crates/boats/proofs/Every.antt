-- Over any calls from a fresh label the choices that are answered are the contacts that were meant to be.
-- Assumes nothing.
use Prim.Native.Nat.{ℕ}
use mathlib.Core.Path.{◌≡◌, refl, sym, ap, subst, ◌∙◌}
use mathlib.Core.Bool.{Bool, true, false, cond}
use mathlib.Core.List.{List, [], ◌∷◌, ◌++◌}
use borrow.Author.Tests.{eqb-true}
use lib.Dec.{eqb}
use lib.ListN.{length, drop}
use Rattle.paper.specs.Refusals.{none}
use Rattle.presses.specs.Buttons.{hit_in}
use Rattle.presses.specs.Choosing.{Choice, fresh_label, records_in, chosen_in, numbers_of, Chooses}
use Rattle.presses.specs.declared.Label.{Label}
use Rattle.boats.specs.Meant.{Event, events_in, Answered, ends, chose, no_choice}
use Rattle.boats.specs.Calls.{LabelCall, LabelCalls, choices_at, choices_of, all_chosen, events_of, EveryChoice}
use Rattle.boats.proofs.Ids.{all_small}
use Rattle.boats.proofs.Held.{meant-chosen}
use Rattle.boats.proofs.Answering.{Keeps, keeps-fresh, answered-records}
use Rattle.boats.proofs.Taking.{takes, leaves}
use Rattle.boats.proofs.Shown.{changes-one, shown-at-both}
use Rattle.boats.proofs.Ended.{ended-press}

-- ---- a call

-- the choices that are laid are the choices that are read
choices-at : (cs : List Choice) (l : List ℕ) → choices_at (length cs) (numbers_of cs ++ l) ≡ cs
unfolding choices_at numbers_of
choices-at [] l = refl
choices-at (c ∷ cs) l = ap (λ (ds : List Choice). c ∷ ds) (choices-at cs l)

-- a call's events and its choices, and whatever comes after them
module _ (c : LabelCall) (l : Label) (k : Chooses (hit_in c.buttons) l c.records c.chosen c.before c.after) (past : List Event) (kept : Keeps past l.pressed) (es : List Event) (cs : List Choice)
    (next : (more : List Event) → Keeps more c.chosen.label.pressed → Answered more es cs) where
  answered-call : (accepted : Bool) → eqb c.chosen.refusal none ≡ accepted → Answered past (cond accepted (events_in c.buttons (records_in c.records)) [] ++ es) (choices_of c ++ cs)
  unfolding choices_at
  answered-call true a =
      let t = takes (hit_in c.buttons) l c.records c.chosen c.before c.after k (eqb-true _ _ a) in
      let ds = chosen_in (hit_in c.buttons) l (records_in c.records) in
      let e : choices_of c ≡ ds = (λ i. choices_at (t.count i) (t.list i)) ∙ choices-at ds (drop (length (numbers_of ds)) c.before) in
      subst (λ (xs : List Choice). Answered past (events_in c.buttons (records_in c.records) ++ es) (xs ++ cs)) (sym e)
      (answered-records c.buttons (records_in c.records) (all_small c.records) past l kept es cs
      (λ more m. next more (subst (λ (q : Label). Keeps more q.pressed) (sym t.label) m)))
  answered-call false a =
      let t = leaves (hit_in c.buttons) l c.records c.chosen c.before c.after k a in
      let e : choices_of c ≡ [] = ap (λ (n : ℕ). choices_at n c.after) t.count in
      subst (λ (xs : List Choice). Answered past es (xs ++ cs)) (sym e) (next past (subst (λ (q : Label). Keeps past q.pressed) (sym t.label) kept))

answered-calls : (h : List LabelCall) (l : Label) → LabelCalls l h → (past : List Event) → Keeps past l.pressed → Answered past (events_of h) (all_chosen h)
unfolding LabelCalls events_of all_chosen
answered-calls [] l k past kept = ends past
answered-calls (c ∷ h) l k past kept =
    answered-call c l k.0 past kept (events_of h) (all_chosen h) (answered-calls h c.chosen.label k.1) (eqb c.chosen.refusal none) refl

-- ---- and no other list of choices

only_one : (past : List Event) {es : List Event} {cs : List Choice} → Answered past es cs → (ds : List Choice) → Answered past es ds → cs ≡ ds
only_one past (ends _) ds (ends _) = refl
only_one past (chose _ e item es cs m a) ds (chose _ _ other _ cs' m' b) =
    let same = (meant-chosen past e item m).1 ∙ sym (meant-chosen past e other m').1 in
    let more = only_one (past ++ (e ∷ [])) a cs' b in
    λ i. record { id = e.contact.id; item = same i } ∷ more i
only_one past (chose _ e item es cs m a) ds (no_choice _ _ _ _ n b) = absurd (n item m)
only_one past (no_choice _ e es cs n a) ds (chose _ _ item _ _ m b) = absurd (n item m)
only_one past (no_choice _ e es cs n a) ds (no_choice _ _ _ _ n' b) = only_one (past ++ (e ∷ [])) a ds b

pub every-choice : EveryChoice
every-choice =
    record {
      exactly = λ h k. answered-calls h fresh_label k [] keeps-fresh;
      only = λ past es cs ds a b. only_one past a ds b;
      one = changes-one;
      shown = shown-at-both;
      ended = ended-press;
      alone = λ past others lift item e m.
          record {
            place = m.place;
            before = m.before;
            pressing = m.pressing;
            moves = m.moves;
            records = sym e ∙ m.records;
            pressed = m.pressed;
            engaged = m.engaged;
            lifted = m.lifted;
            pressed_in = m.pressed_in;
            lifted_in = m.lifted_in;
            named = m.named;
          };
    }

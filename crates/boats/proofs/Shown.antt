-- Showing and hiding changes one button, and no button's item: a choice names the item that was pressed.
-- Assumes nothing.
use Prim.Native.Nat.{ℕ}
use mathlib.Core.Path.{◌≡◌, refl, sym, ap, subst, ◌∙◌}
use mathlib.Core.Bool.{Bool, true, false, cond}
use mathlib.Core.List.{List, [], ◌∷◌, ◌++◌, map}
use borrow.Author.Tests.{ltb-false}
use lib.Dec.{eqb, ltb}
use lib.ListN.{length, get_or, length-set, get_or-map}
use lib.Seq.{set_out, get_or-set_same, get_or-set_other, map-set_same}
use Rattle.paper.specs.Refusals.{none}
use Rattle.house.specs.declared.Record.{Record}
use Rattle.house.specs.declared.Record.TheVariants as Record
use Rattle.stream.specs.Asked.{All}
use Rattle.presses.specs.Buttons.{is_shown, button_at, blank, marked, with_shown, SetsShown}
use Rattle.presses.specs.Choosing.{records_in}
use Rattle.presses.specs.declared.Button.{Button}
use Rattle.boats.specs.Meant.{Event, events_in, Meant}
use Rattle.boats.specs.Calls.{LabelCall, events_of, ChangesOne, MarkedFrom, as_it_was, then_marked, OnOneList}
use Rattle.boats.proofs.Among.{all_both, all-at, all-of-contact}

-- ---- one button

module _ (bs : List Button) (place shown : ℕ) (there : Bool) (after : List Button) (s : SetsShown bs place shown there after) where
  -- a place past the end changes nothing
  after_is : after ≡ with_shown bs place shown
  after_is = s.list ∙ go (ltb place (length bs)) refl
    where
      go : (within : Bool) → ltb place (length bs) ≡ within → cond within (with_shown bs place shown) bs ≡ with_shown bs place shown
      go true e = refl
      go false e = sym (set_out bs place (marked shown (button_at bs place)) (ltb-false _ _ e))

  pub changes-one : ChangesOne bs place shown after
  changes-one =
      let new = marked shown (button_at bs place) in
      record {
        same = ap length after_is ∙ length-set bs place new;
        that = λ l. ap (λ (cs : List Button). button_at cs place) after_is ∙ get_or-set_same bs place new blank l;
        others = λ other n. ap (λ (cs : List Button). button_at cs other) after_is ∙ get_or-set_other bs place other new blank n;
      }

-- ---- the same items

abbrev items : List Button → List ℕ
items bs = map (λ (b : Button). b.item) bs

item-at : (bs cs : List Button) (place : ℕ) → items bs ≡ items cs → (button_at bs place).item ≡ (button_at cs place).item
item-at bs cs place e =
    let item : Button → ℕ = λ b. b.item in
    sym (get_or-map item bs place blank) ∙ (ap (λ (l : List ℕ). get_or l place 0) e ∙ get_or-map item cs place blank)

marked-items : {bs ds : List Button} → MarkedFrom bs ds → items ds ≡ items bs
marked-items (as_it_was bs) = refl
marked-items (then_marked bs cs ds place shown there m s) =
    ap items (after_is cs place shown there ds s)
    ∙ (map-set_same (λ (b : Button). b.item) cs place (marked shown (button_at cs place)) blank refl ∙ marked-items m)

abbrev Same : List Button → Event → Type 0
Same bs e = items e.buttons ≡ items bs

record-events : (bs cs : List Button) (rs : List Record) → items cs ≡ items bs → All (Same bs) (events_in cs rs)
unfolding events_in
record-events bs cs [] s = tt
record-events bs cs (Record.Head h ∷ rs) s = record-events bs cs rs s
record-events bs cs (Record.Contact kind c ∷ rs) s = (s, record-events bs cs rs s)
record-events bs cs (Record.Refused e ∷ rs) s = record-events bs cs rs s

call-events : (bs cs : List Button) (rs : List Record) → items cs ≡ items bs → (accepted : Bool) → All (Same bs) (cond accepted (events_in cs rs) [])
call-events bs cs rs s true = record-events bs cs rs s
call-events bs cs rs s false = tt

calls-events : (bs cs : List Button) → items cs ≡ items bs → (h : List LabelCall) → OnOneList cs h → All (Same bs) (events_of h)
unfolding OnOneList events_of
calls-events bs cs s [] o = tt
calls-events bs cs s (c ∷ h) o =
    let t = marked-items o.0 ∙ s in
    let accepted = eqb c.chosen.refusal none in
    let rs = records_in c.records in
    all_both (Same bs) (cond accepted (events_in c.buttons rs) []) (events_of h) (call-events bs c.buttons rs t accepted) (calls-events bs c.buttons t h o.1)

-- ---- A CHOICE'S ITEM

pub shown-at-both : (bs : List Button) (h : List LabelCall) → OnOneList bs h → (past : List Event) (e : Event) (es : List Event) (item : ℕ)
    → events_of h ≡ past ++ (e ∷ es) → (m : Meant past e item)
    → ((button_at m.pressing.buttons m.place).item ≡ item) × (is_shown (button_at m.pressing.buttons m.place) ≡ true)
shown-at-both bs h o past e es item c m =
    let there = all-at (Same bs) past e es (subst (All (Same bs)) c (calls-events bs bs refl h o)) in
    let pressing = (all-at (Same bs) m.before m.pressing m.moves (subst (All (Same bs)) m.records (all-of-contact (Same bs) e.contact.id past there.0))).1 in
    (item-at m.pressing.buttons e.buttons m.place (pressing ∙ sym there.1) ∙ sym m.named, m.pressed_in.shown)

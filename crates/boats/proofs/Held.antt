-- What a contact holds pressed, over its own records: the number of the button of its last press, if nothing but moves came after it.
-- Assumes nothing.
use Prim.Native.Nat.{ℕ, zero, suc, ◌+◌}
use mathlib.Core.Path.{◌≡◌, refl, sym, ap, ◌∙◌}
use mathlib.Core.Bool.{Bool, true, false, cond}
use mathlib.Core.List.{List, [], ◌∷◌, ◌++◌}
use mathlib.Core.Logic.{◌⊎◌, inl, inr}
use native.Mathlib.Omega.{arith}
use borrow.Author.Tests.{eqb-true, eq-eqb, ne_eqb}
use lib.Dec.{eqb, eqb-suc-zero}
use Rattle.well_formed.proofs.WellFormed.{never}
use Rattle.stream.specs.Asked.{All}
use Rattle.presses.specs.Choosing.{press, move, is_lift, pressed_after, is_choice}
use Rattle.presses.specs.declared.Hit.{Hit}
use Rattle.boats.specs.Meant.{Event, flags_of, of_contact, Meant}
use Rattle.boats.proofs.Inside.{hit_at, number_in, in-number}

-- after one
abbrev held_by : ℕ → Event → ℕ
held_by n e = pressed_after (flags_of e) (hit_at e) n

-- after a contact's records, from what it held before them
unfoldable pub held : ℕ → List Event → ℕ
held n [] = n
held n (e ∷ es) = held (held_by n e) es

pub held-append : (n : ℕ) (xs ys : List Event) → held n (xs ++ ys) ≡ held (held n xs) ys
unfolding held
held-append n [] ys = refl
held-append n (e ∷ xs) ys = held-append (held_by n e) xs ys

held-moves : (n : ℕ) (es : List Event) → All (λ e. flags_of e ≡ move) es → held n es ≡ n
unfolding held
held-moves n [] m = refl
held-moves n (e ∷ es) m = ap (λ f. held (pressed_after f (hit_at e) n) es) m.0 ∙ held-moves n es m.1

held-pressed : (n : ℕ) (e : Event) (es : List Event) → flags_of e ≡ press → All (λ d. flags_of d ≡ move) es → held n (e ∷ es) ≡ (hit_at e).number
unfolding held
held-pressed n e es p m = ap (λ f. held (pressed_after f (hit_at e) n) es) p ∙ held-moves (hit_at e).number es m

-- ---- a press, and nothing but moves since

record Engaged (es : List Event) (number : ℕ) : Type 0 where
  before : List Event
  pressing : Event
  moves : List Event
  records : es ≡ before ++ (pressing ∷ moves)
  pressed : flags_of pressing ≡ press
  engaged : All (λ e. flags_of e ≡ move) moves
  button : (hit_at pressing).number ≡ number

-- either there was no press, or it is the last press's
abbrev Since : ℕ → List Event → ℕ → Type 0
Since n es number = (All (λ e. flags_of e ≡ move) es × (n ≡ number)) ⊎ Engaged es number

since-on : (n k : ℕ) (e : Event) (es : List Event) (isPress is_move : Bool) → eqb (flags_of e) press ≡ isPress → eqb (flags_of e) move ≡ is_move
    → Since (cond isPress (hit_at e).number (cond is_move n 0)) es (suc k) → Since n (e ∷ es) (suc k)
since-on n k e es p m ep em (inr g) =
    inr (record { before = e ∷ g.before; pressing = g.pressing; moves = g.moves; records = ap (λ l. e ∷ l) g.records; pressed = g.pressed; engaged = g.engaged; button = g.button })
since-on n k e es true m ep em (inl g) =
    inr (record { before = []; pressing = e; moves = es; records = refl; pressed = eqb-true _ _ ep; engaged = g.0; button = g.1 })
since-on n k e es false true ep em (inl g) = inl ((eqb-true _ _ em, g.0), g.1)
since-on n k e es false false ep em (inl g) = absurd (omega (arith, g.1))

held-since : (n k : ℕ) (es : List Event) → held n es ≡ suc k → Since n es (suc k)
unfolding held
held-since n k [] h = inl (tt, h)
held-since n k (e ∷ es) h = since-on n k e es (eqb (flags_of e) press) (eqb (flags_of e) move) refl refl (held-since (held_by n e) k es h)

held-engaged : (k : ℕ) (es : List Event) → Since 0 es (suc k) → Engaged es (suc k)
held-engaged k es (inl g) = absurd (omega (arith, g.1))
held-engaged k es (inr g) = g

-- ---- A CHOICE IS WHAT IS MEANT

-- an event after what was past, and what its contact held
abbrev pub choice : List Event → Event → Bool
choice past e = is_choice (flags_of e) (hit_at e) (held 0 (of_contact e.contact.id past))

meant-by : (past : List Event) (e : Event) (k : ℕ) → is_lift (flags_of e) ≡ true → held 0 (of_contact e.contact.id past) ≡ suc k → (hit_at e).number ≡ suc k → Meant past e (hit_at e).item
meant-by past e k l h n =
    let g = held-engaged k _ (held-since 0 k _ h) in
    let i = number_in e k n in
    record {
      place = k;
      before = g.before;
      pressing = g.pressing;
      moves = g.moves;
      records = g.records;
      pressed = g.pressed;
      engaged = g.engaged;
      lifted = l;
      pressed_in = (number_in g.pressing k g.button).0;
      lifted_in = i.0;
      named = i.1;
    }

pub chosen-meant : (past : List Event) (e : Event) → choice past e ≡ true → Meant past e (hit_at e).item
chosen-meant past e = go (is_lift (flags_of e)) (held 0 (of_contact e.contact.id past)) refl refl
  where
    go : (lift : Bool) (n : ℕ) → is_lift (flags_of e) ≡ lift → held 0 (of_contact e.contact.id past) ≡ n
        → cond lift (cond (eqb n 0) false (eqb (hit_at e).number n)) false ≡ true → Meant past e (hit_at e).item
    go true zero l h c = never c refl
    go true (suc k) l h c = meant-by past e k l h (eqb-true _ _ (sym (ap (λ (b : Bool). cond b false (eqb (hit_at e).number (suc k))) (eqb-suc-zero k)) ∙ c))
    go false n l h c = never c refl

-- and the other way round: what is meant is a choice, of that item
choice-is : (flags n k : ℕ) (h : Hit) → is_lift flags ≡ true → n ≡ k + 1 → h.number ≡ k + 1 → is_choice flags h n ≡ true
choice-is flags n k h l e m =
    ap (λ (b : Bool). cond b (cond (eqb n 0) false (eqb h.number n)) false) l
    ∙ (ap (λ (b : Bool). cond b false (eqb h.number n)) (ne_eqb n 0 (λ z. omega (arith, z, e))) ∙ eq-eqb h.number n (m ∙ sym e))

pub meant-chosen : (past : List Event) (e : Event) (item : ℕ) → Meant past e item → (choice past e ≡ true) × (item ≡ (hit_at e).item)
meant-chosen past e item m =
    let n : held 0 (of_contact e.contact.id past) ≡ m.place + 1 =
    ap (held 0) m.records
    ∙ (held-append 0 m.before (m.pressing ∷ m.moves)
    ∙ (held-pressed _ m.pressing m.moves m.pressed m.engaged
    ∙ ap (λ (h : Hit). h.number) (in-number m.pressing m.place m.pressed_in))) in
    let i = in-number e m.place m.lifted_in in
    (choice-is (flags_of e) _ m.place (hit_at e) m.lifted n (ap (λ (h : Hit). h.number) i), m.named ∙ sym (ap (λ (h : Hit). h.item) i))

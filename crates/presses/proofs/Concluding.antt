-- A run over all records comes to what they keep and what they choose; and two runs, one that counts and one that writes, are the call.
-- Assumes nothing.
use Prim.Native.Nat.{ℕ, zero, suc, ◌+◌, ◌-◌, ◌/◌, ◌^◌, ◌≤◌, ◌<◌}
use mathlib.Core.Path.{◌≡◌, refl, sym, ap, ◌∙◌}
use mathlib.Core.Bool.{Bool, true, false, cond}
use mathlib.Core.List.{List, [], ◌∷◌, ◌++◌}
use native.Mathlib.Omega.{arith}
use borrow.Author.Tests.{eqb-true, le-leb, leb-true, leb-false, ltb-true}
use lib.Dec.{eqb, leb, ltb}
use lib.ListN.{length, get_or, set, drop, length-drop, length-append, drop_of_length-le}
use lib.Seq.{drop-drop}
use Rattle.paper.specs.Refusals.{none, no_room, bad_record}
use Rattle.slices.specs.Writing.{laid}
use Rattle.house.specs.Fields.{record_bytes}
use Rattle.house.specs.Layout.{record_of}
use Rattle.house.specs.Records as house
use Rattle.house.specs.declared.Point.{Point}
use Rattle.house.specs.declared.Record.{Record}
use Rattle.house.proofs.Records.{records-step, records-many}
use Rattle.well_formed.proofs.WellFormed.{never}
use Rattle.presses.specs.declared.Label.{Label}
use Rattle.presses.specs.declared.Hit.{Hit}
use Rattle.presses.specs.declared.Tally.{Tally}
use Rattle.presses.specs.declared.Picked.{Picked}
use Rattle.presses.specs.Buttons.{nowhere}
use Rattle.presses.specs.Choosing.{Choice, press, looks, is_lift, pressed_after, is_choice, point_of, states_after, pressed_in, record_kept, record_chosen, kept_of, chosen_in, records_in, is_taken, numbers_of, refusal_of, decided, list_after, Chooses}
use Rattle.presses.specs.Turns.{looks_in, look_at, hit_at, put_choices, Went, went_to, begun_at, next_at, tallied, turned_by, went_on, turns, driven, counting_from, ruled, writing_from, concluded, chosen_as}
use Rattle.presses.proofs.Driving.{next-is, driven-done}
use Rattle.presses.proofs.Putting.{numbers-long, places-fit, counted_is, put-append, put-none, put_all}

-- ---- flags that do not look at buttons do the same in any

pressed-blind : (flags : ℕ) (h k : Hit) (n : ℕ) → looks flags ≡ false → pressed_after flags h n ≡ pressed_after flags k n
pressed-blind flags h k n e = go (eqb flags press) refl e
  where
    go : (b : Bool) → eqb flags press ≡ b → cond b true (is_lift flags) ≡ false → pressed_after flags h n ≡ pressed_after flags k n
    go true a f = never refl f
    go false a f = rw a refl

choice-blind : (flags : ℕ) (h : Hit) (n : ℕ) → looks flags ≡ false → is_choice flags h n ≡ false
choice-blind flags h n e = go (eqb flags press) refl (is_lift flags) refl e
  where
    go : (a : Bool) → eqb flags press ≡ a → (b : Bool) → is_lift flags ≡ b → cond a true b ≡ false → is_choice flags h n ≡ false
    go true f b g x = never refl x
    go false f true g x = never refl x
    go false f false g x = rw g refl

-- so a record that was given what it looks at does what it does in the button of its point
module _ (hit : Point → Hit) (l : List ℕ) (at : ℕ) where
  abbrev here : Record
  here = record_of (drop at l)

  hit-is : hit_at hit l at ≡ cond (looks_in here) (hit (point_of here)) nowhere
  unfolding hit_at look_at
  hit-is = refl

  kept_by : (r : Record) (b : Bool) (label : Label) → looks_in r ≡ b → record_kept (cond b (hit (point_of r)) nowhere) label r ≡ record_kept (hit (point_of r)) label r
  unfolding states_after pressed_in
  kept_by (Record.Head h) b label e = refl
  kept_by (Record.Contact kind c) true label e = refl
  kept_by (Record.Contact kind c) false label e =
      ap (λ (n : ℕ). record { states = states_after label.states (Record.Contact kind c); pressed = set label.pressed c.id n }) (pressed-blind c.flags nowhere (hit c.place) (get_or label.pressed c.id 0) e)
  kept_by (Record.Refused n) b label e = refl

  chosen_by : (r : Record) (b : Bool) (pressed : List ℕ) → looks_in r ≡ b → record_chosen (cond b (hit (point_of r)) nowhere) pressed r ≡ record_chosen (hit (point_of r)) pressed r
  unfolding record_chosen
  chosen_by (Record.Head h) b pressed e = refl
  chosen_by (Record.Contact kind c) true pressed e = refl
  chosen_by (Record.Contact kind c) false pressed e =
      let n = get_or pressed c.id 0 in
      rw (choice-blind c.flags nowhere n e, choice-blind c.flags (hit c.place) n e) refl
  chosen_by (Record.Refused n) b pressed e = refl

  kept_here : (label : Label) → record_kept (hit_at hit l at) label here ≡ record_kept (hit (point_of here)) label here
  kept_here label = ap (λ (h : Hit). record_kept h label here) hit-is ∙ kept_by here (looks_in here) label refl

  chosen-here : (pressed : List ℕ) → record_chosen (hit_at hit l at) pressed here ≡ record_chosen (hit (point_of here)) pressed here
  chosen-here pressed = ap (λ (h : Hit). record_chosen h pressed here) hit-is ∙ chosen_by here (looks_in here) pressed refl

-- a record is one choice at most
one_choice : (h : Hit) (pressed : List ℕ) (r : Record) → length (record_chosen h pressed r) ≤ 1
unfolding record_chosen
one_choice h pressed (Record.Head x) = omega arith
one_choice h pressed (Record.Contact kind c) = go (is_choice c.flags h (get_or pressed c.id 0))
  where
    go : (b : Bool) → length {A = Choice} (cond b (record { id = c.id; item = h.item } ∷ []) []) ≤ 1
    go true = omega arith
    go false = omega arith
one_choice h pressed (Record.Refused e) = omega arith

-- ---- the records behind the one at a place

rest-is : (l : List ℕ) (at : ℕ) → at < length l → records_in (drop at l) ≡ record_of (drop at l) ∷ records_in (drop (next_at (length l) at) l)
rest-is l at h =
    let n : 0 < length (drop at l) = omega (arith, h, length-drop at l) in
    records-step record_of (drop at l) n ∙ ap (λ (t : List ℕ). record_of (drop at l) ∷ records_in t) (go (leb (at + record_bytes) (length l)) refl)
  where
    go : (b : Bool) → leb (at + record_bytes) (length l) ≡ b → drop record_bytes (drop at l) ≡ drop (cond b (at + record_bytes) (length l)) l
    go true e = drop-drop record_bytes at l
    go false e =
        let k : length l < at + record_bytes = leb-false _ _ e in
        let m : length l ≤ at + record_bytes = omega (arith, k) in
        let o : length l ≤ length l = omega arith in
        drop-drop record_bytes at l ∙ drop_of_length-le l m ∙ sym (drop_of_length-le l o)

-- ---- a run

module _ (hit : Point → Hit) (l : List ℕ) (writing : Bool) where
  -- what the records from a place on come to
  abbrev came : Went → List Record → Went
  came w rs =
      let cs : List Choice = chosen_in hit w.run.label rs in
      record { run = record { label = kept_of hit w.run.label rs; at = length l; count = w.run.count + length cs }; out = put_choices writing w.run.count cs w.out }

  -- nothing at the end
  came-none : (w : Went) → w.run.at ≡ length l → w ≡ came w (records_in [])
  unfolding house.records_in house.records_from kept_of chosen_in put_choices
  came-none w a =
      let z : w.run.count ≡ w.run.count + 0 = omega arith in
      λ i. record { run = record { label = w.run.label; at = a i; count = z i }; out = w.out }

  -- the turn over a record, in the button of its point
  turn-same : (w : Went) → let r = record_of (drop w.run.at l) in
      went_on (hit_at hit l w.run.at) l writing w ≡ turned_by (hit (point_of r)) r (next_at (length l) w.run.at) writing w
  unfolding went_on turned_by
  turn-same w =
      let kept = kept_here hit l w.run.at w.run.label in
      let cs = chosen-here hit l w.run.at w.run.label.pressed in
      λ i. record {
        run = record { label = kept i; at = next_at (length l) w.run.at; count = tallied (cs i) w.run.count };
        out = put_choices writing w.run.count (cs i) w.out;
      }

  -- a turn, and those behind it
  came-on : (w : Went) (r : Record) (n : ℕ) (rs : List Record) → w.run.count + 1 < 2 ^ 64 → came (turned_by (hit (point_of r)) r n writing w) rs ≡ came w (r ∷ rs)
  unfolding turned_by kept_of chosen_in
  came-on w r n rs fits =
      let h = hit (point_of r) in
      let xs : List Choice = record_chosen h w.run.label.pressed r in
      let ys : List Choice = chosen_in hit (record_kept h w.run.label r) rs in
      let c : tallied xs w.run.count ≡ w.run.count + length xs = counted_is xs w.run.count (omega (arith, fits, one_choice h w.run.label.pressed r)) in
      let m : tallied xs w.run.count + length ys ≡ w.run.count + length (xs ++ ys) = rw (c, length-append xs ys) (omega arith) in
      let o : put_choices writing (tallied xs w.run.count) ys (put_choices writing w.run.count xs w.out) ≡ put_choices writing w.run.count (xs ++ ys) w.out =
      ap (λ (k : ℕ). put_choices writing k ys (put_choices writing w.run.count xs w.out)) c ∙ put-append writing w.run.count xs ys w.out in
      λ i. record { run = record { label = kept_of hit (record_kept h w.run.label r) rs; at = length l; count = m i }; out = o i }

  runs : (k : ℕ) (w : Went) → w.run.at ≤ length l → (length l - w.run.at + 20) / 21 ≡ k → w.run.count + k < 2 ^ 64 → turns k hit l writing w ≡ came w (records_in (drop w.run.at l))
  unfolding turns turned_by
  runs zero w inside e fits =
      let a : w.run.at ≡ length l = omega (arith, inside, e) in
      let b : length l ≤ w.run.at = omega (arith, a) in
      came-none w a ∙ ap (λ (t : List ℕ). came w (records_in t)) (sym (drop_of_length-le l b))
  runs (suc k) w inside e fits =
      let a : w.run.at < length l = omega (arith, e) in
      let n = next-is (length l) w.run.at a in
      let r = record_of (drop w.run.at l) in
      let v = turned_by (hit (point_of r)) r (next_at (length l) w.run.at) writing w in
      let xs : List Choice = record_chosen (hit (point_of r)) w.run.label.pressed r in
      let one = one_choice (hit (point_of r)) w.run.label.pressed r in
      let c : tallied xs w.run.count ≡ w.run.count + length xs = counted_is xs w.run.count (omega (arith, fits, one)) in
      ap (turns k hit l writing) (turn-same w) ∙ runs k v n.1 (omega (arith, e, n.2)) (omega (arith, c, fits, one))
      ∙ came-on w r (next_at (length l) w.run.at) (records_in (drop (next_at (length l) w.run.at) l)) (omega (arith, fits))
      ∙ ap (came w) (sym (rest-is l w.run.at a))

  driven-is : (s p out : List ℕ) → length l < 2 ^ 64 → let w : Went = went_to s p (begun_at 0) out in driven hit l writing w ≡ came w (records_in l)
  unfolding driven
  driven-is s p out fits = runs ((length l - 0 + 20) / 21) (went_to s p (begun_at 0) out) (omega arith) refl (omega (arith, fits))

-- no more choices than records
pub chosen-few : (hit : Point → Hit) (label : Label) (rs : List Record) → length (chosen_in hit label rs) ≤ length rs
unfolding chosen_in
chosen-few hit label [] = omega arith
chosen-few hit label (r ∷ rs) =
    let h : Hit = hit (point_of r) in
    rw (length-append (record_chosen h label.pressed r) (chosen_in hit (record_kept h label r) rs))
    (omega (arith, one_choice h label.pressed r, chosen-few hit (record_kept h label r) rs))

-- ---- the call

-- none is refused where there is room
roomy : (hit : Point → Hit) (label : Label) (l : List ℕ) (room : ℕ) → refusal_of hit label l room ≡ none → length (numbers_of (chosen_in hit label (records_in l))) ≤ room
unfolding refusal_of
roomy hit label l room e = go (is_taken label.states l) (leb n room) refl e
  where
    n : ℕ
    n = length (numbers_of (chosen_in hit label (records_in l)))

    go : (a b : Bool) → leb n room ≡ b → cond a (cond b none no_room) bad_record ≡ none → n ≤ room
    go true true h e = leb-true _ _ h
    go true false h e = absurd (omega (arith, e))
    go false b h e = absurd (omega (arith, e))

-- what a run that counts answers: nothing is written, and what it counted, or left uncounted, fits just where all choices do
pub record Tried (hit : Point → Hit) (label : Label) (l before mid : List ℕ) (count : ℕ) : Type 0 where
  pub same : mid ≡ before
  pub fits : leb count (length before / 2) ≡ leb (length (numbers_of (chosen_in hit label (records_in l)))) (length before)

tried-is : (hit : Point → Hit) (label : Label) (l before mid s p : List ℕ) (tried : Tally) → length l < 2 ^ 64
    → went_to s p tried mid ≡ driven hit l false (went_to label.states label.pressed (begun_at (counting_from (length l) (length before))) before)
    → Tried hit label l before mid tried.count
tried-is hit label l before mid s p tried fits e = go (ltb (length l / record_bytes) (length before / 2)) refl e
  where
    cs : List Choice
    cs = chosen_in hit label (records_in l)

    go : (b : Bool) → ltb (length l / record_bytes) (length before / 2) ≡ b
        → went_to s p tried mid ≡ driven hit l false (went_to label.states label.pressed (begun_at (cond b (length l) 0)) before) → Tried hit label l before mid tried.count
    go true k e =
        let w : Went = went_to label.states label.pressed (begun_at (length l)) before in
        let f = e ∙ driven-done hit l false w (omega arith) in
        let none-counted : tried.count ≡ 0 = ap (λ (v : Went). v.run.count) f in
        let few : length cs ≤ length (records_in l) = chosen-few hit label (records_in l) in
        let many : length (records_in l) ≡ (length l + 20) / 21 = records-many record_of l in
        let less : length l / record_bytes < length before / 2 = ltb-true _ _ k in
        let a : 0 ≤ length before / 2 = omega arith in
        let b : length (numbers_of cs) ≤ length before = omega (arith, numbers-long cs, few, many, less) in
        record { same = ap (λ (v : Went). v.out) f; fits = rw (none-counted, le-leb _ _ a, le-leb _ _ b) refl }
    go false k e =
        let f = e ∙ driven-is hit l false label.states label.pressed before fits in
        let counted-all : tried.count ≡ length cs = ap (λ (v : Went). v.run.count) f ∙ omega arith in
        record { same = ap (λ (v : Went). v.out) f ∙ put-none 0 cs before; fits = rw counted-all (places-fit cs (length before)) }

-- a run that counts, the ruling, and a run that writes where nothing is refused
pub chosen_is : (hit : Point → Hit) (label : Label) (l before mid after s p s' p' : List ℕ) (tried run : Tally) (e : ℕ) (x : Picked) → length l < 2 ^ 64
    → went_to s p tried mid ≡ driven hit l false (went_to label.states label.pressed (begun_at (counting_from (length l) (length before))) before)
    → e ≡ ruled label.states l tried.count (length before)
    → went_to s' p' run after ≡ driven hit l true (went_to label.states label.pressed (begun_at (writing_from e (length l))) mid)
    → x ≡ concluded e run → Chooses hit label l (chosen_as s' p' x) before after
unfolding refusal_of
chosen_is hit label l before mid after s p s' p' tried run e x fits first ruling second answer =
    let t = tried-is hit label l before mid s p tried fits first in
    let f : e ≡ refusal_of hit label l (length before) = ruling ∙ ap (λ (b : Bool). cond (is_taken label.states l) (cond b none no_room) bad_record) t.fits in
    let w : (from : ℕ) → Went = λ from. went_to label.states label.pressed (begun_at from) before in
    let g : went_to s' p' run after ≡ driven hit l true (w (writing_from e (length l))) =
    second ∙ ap (λ (o : List ℕ). driven hit l true (went_to label.states label.pressed (begun_at (writing_from e (length l))) o)) t.same in
    let a : chosen_as s' p' x ≡ chosen_as s' p' (concluded e run) = ap (chosen_as s' p') answer in
    go (eqb e none) refl f g a
  where
    cs : List Choice
    cs = chosen_in hit label (records_in l)

    go : (b : Bool) → eqb e none ≡ b → e ≡ refusal_of hit label l (length before) → went_to s' p' run after ≡ driven hit l true (went_to label.states label.pressed (begun_at (cond b 0 (length l))) before)
        → chosen_as s' p' x ≡ chosen_as s' p' (concluded e run) → Chooses hit label l (chosen_as s' p' x) before after
    go true k f g a =
        let z : e ≡ none = eqb-true _ _ k in
        let h = g ∙ driven-is hit l true label.states label.pressed before fits in
        let room : length (numbers_of cs) ≤ length before = roomy hit label l (length before) (sym f ∙ z) in
        let n : run.count ≡ length cs = ap (λ (v : Went). v.run.count) h ∙ omega arith in
        record {
          answer = a ∙ (λ i. record { label = (h i).run.label; refusal = z i; count = n i }) ∙ ap (λ (m : ℕ). decided m label (kept_of hit label (records_in l)) cs) (sym z ∙ f);
          output = ap (λ (v : Went). v.out) h ∙ put_all cs before room ∙ ap (λ (m : ℕ). list_after m before cs) (sym z ∙ f);
        }
    go false k f g a =
        let w : Went = went_to label.states label.pressed (begun_at (length l)) before in
        let h = g ∙ driven-done hit l true w (omega arith) in
        let q : decided e label (kept_of hit label (records_in l)) cs ≡ record { label = label; refusal = e; count = 0 } = ap (λ (b : Bool). cond b (record { label = kept_of hit label (records_in l); refusal = none; count = length cs }) (record { label = label; refusal = e; count = 0 })) k in
        let o : list_after e before cs ≡ before = ap (λ (b : Bool). cond b (laid before (numbers_of cs)) before) k in
        record {
          answer = a ∙ (λ i. record { label = (h i).run.label; refusal = e; count = (h i).run.count }) ∙ sym q ∙ ap (λ (m : ℕ). decided m label (kept_of hit label (records_in l)) cs) f;
          output = ap (λ (v : Went). v.out) h ∙ sym o ∙ ap (λ (m : ℕ). list_after m before cs) f;
        }

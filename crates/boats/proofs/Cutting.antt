-- A call that is accepted, cut between frames, is two calls that answer the same.
-- Assumes nothing.
use Prim.Native.Nat.{ℕ, ◌+◌, ◌*◌, ◌/◌, ◌≤◌}
use mathlib.Core.Path.{◌≡◌, refl, sym, ap, subst, ◌∙◌}
use mathlib.Core.Bool.{Bool, true, false, cond}
use mathlib.Core.List.{List, [], ◌++◌}
use native.Mathlib.Nat.{zero-add}
use native.Mathlib.Omega.{arith}
use borrow.Author.Tests.{leb-true, le-leb}
use lib.Dec.{leb}
use lib.ListN.{length, take, drop, length-append, length-drop}
use Rattle.paper.specs.Refusals.{none, no_room, bad_record}
use Rattle.slices.specs.Writing.{laid}
use Rattle.slices.proofs.Tails.{laid-length, laid_next}
use Rattle.house.specs.Fields.{record_bytes}
use Rattle.house.specs.Layout.{record_of}
use Rattle.house.specs.Records as house
use Rattle.house.specs.declared.Point.{Point}
use Rattle.house.proofs.Front.{record-alone}
use Rattle.well_formed.specs.WellFormed.{all, well_formed}
use Rattle.well_formed.proofs.WellFormed.{all_none, all_split, all_join, all-all}
use Rattle.well_formed.proofs.Front.{well-alone}
use Rattle.presses.specs.Buttons.{hit_in}
use Rattle.presses.specs.Choosing.{Choice, records_in, all_well, in_frames, by_table, is_taken, is_taken_from, kept_of, chosen_in, numbers_of, refusal_of, Chooses}
use Rattle.presses.specs.declared.Button.{Button}
use Rattle.presses.specs.declared.Hit.{Hit}
use Rattle.presses.specs.declared.Label.{Label}
use Rattle.presses.specs.declared.Chosen.{Chosen}
use Rattle.boats.specs.Cutting.{BetweenFrames, AnsweredInTwo, CutsInTwo}
use Rattle.boats.proofs.Taking.{Takes, takes, refuses}
use Rattle.presses.proofs.Putting.{numbers-long}
use Rattle.boats.proofs.Parts.{records-append, frames-append, choices-append, kept_append, chosen-append, table-append}

-- ---- which calls are accepted

record Accepted (hit : Point → Hit) (l : Label) (records : List ℕ) (room : ℕ) : Type 0 where
  well : all_well records ≡ true
  frames : in_frames 0 (records_in records) ≡ true
  table : by_table l.states (records_in records) ≡ true
  roomy : length (numbers_of (chosen_in hit l (records_in records))) ≤ room

tested : (taken fits : Bool) → cond taken (cond fits none no_room) bad_record ≡ none → (taken ≡ true) × (fits ≡ true)
tested true true h = (refl, refl)
tested true false h = absurd (omega (arith, h))
tested false fits h = absurd (omega (arith, h))

module _ (hit : Point → Hit) (l : Label) (records : List ℕ) (room : ℕ) where
  accepted : refusal_of hit l records room ≡ none → Accepted hit l records room
  unfolding refusal_of is_taken_from
  accepted e =
      let t = tested (is_taken l.states records) (leb (length (numbers_of (chosen_in hit l (records_in records)))) room) e in
      let w = all_split _ _ t.0 in
      let f = all_split _ _ w.1 in
      record { well = w.0; frames = f.0; table = (all_split _ [] f.1).0; roomy = leb-true _ _ t.1 }

  accepts : Accepted hit l records room → refusal_of hit l records room ≡ none
  unfolding refusal_of is_taken_from
  accepts a =
      let t : is_taken l.states records ≡ true = all_join _ _ a.well (all_join _ _ a.frames (all_join _ [] a.table all_none)) in
      rw (t, le-leb _ _ a.roomy)

-- ---- one call and two

module _ (bs : List Button) (l : Label) (front back : List ℕ) (x y z : Chosen) (before xs ys zs : List ℕ) (between : BetweenFrames front)
    (one : Chooses (hit_in bs) l (front ++ back) x before xs) (taken : x.refusal ≡ none)
    (former : Chooses (hit_in bs) l front y before ys) (latter : Chooses (hit_in bs) y.label back z (drop (2 * y.count) ys) zs) where
  abbrev middle : Label
  middle = kept_of (hit_in bs) l (records_in front)

  abbrev cs : List Choice
  cs = chosen_in (hit_in bs) l (records_in front)

  abbrev ds : List Choice
  ds = chosen_in (hit_in bs) middle (records_in back)

  whole : length front ≡ record_bytes * (length front / record_bytes)
  whole = omega (arith, between.whole)

  records-both : records_in (front ++ back) ≡ records_in front ++ records_in back
  records-both = records-append record_of record-alone back (length front / record_bytes) front whole

  chosen-both : chosen_in (hit_in bs) l (records_in (front ++ back)) ≡ cs ++ ds
  chosen-both = ap (chosen_in (hit_in bs) l) records-both ∙ chosen-append (hit_in bs) (records_in back) l (records_in front)

  numbers-both : numbers_of (chosen_in (hit_in bs) l (records_in (front ++ back))) ≡ numbers_of cs ++ numbers_of ds
  numbers-both = ap numbers_of chosen-both ∙ choices-append cs ds

  whole-accepted : Accepted (hit_in bs) l (front ++ back) (length before)
  whole-accepted = accepted (hit_in bs) l (front ++ back) (length before) (sym (refuses (hit_in bs) l (front ++ back) x before xs one) ∙ taken)

  room : length (numbers_of cs) + length (numbers_of ds) ≤ length before
  room = omega (arith, whole-accepted.roomy, ap length numbers-both, length-append (numbers_of cs) (numbers_of ds))

  wells : (all_well front ≡ true) × (all_well back ≡ true)
  wells =
      let ws = house.records_in well_formed front in
      let vs = house.records_in well_formed back in
      all_split (all ws) vs (all-all ws vs ∙ (ap all (sym (records-append well_formed well-alone back (length front / record_bytes) front whole)) ∙ whole-accepted.well))

  tables : (by_table l.states (records_in front) ≡ true) × (by_table middle.states (records_in back) ≡ true)
  tables = table-append (hit_in bs) (records_in back) l (records_in front) (ap (by_table l.states) (sym records-both) ∙ whole-accepted.table)

  first-none : y.refusal ≡ none
  first-none =
      refuses (hit_in bs) l front y before ys former
      ∙ accepts (hit_in bs) l front (length before) (record { well = wells.0; frames = between.frames; table = tables.0; roomy = omega (arith, room) })

  firstly : Takes (hit_in bs) l front y before ys
  firstly = takes (hit_in bs) l front y before ys former first-none

  first-long : 2 * y.count ≡ length (numbers_of cs)
  first-long = omega (arith, firstly.count, numbers-long cs)

  room-left : length (numbers_of ds) ≤ length (drop (2 * y.count) ys)
  room-left =
      let same : length ys ≡ length before = ap length firstly.list ∙ laid-length before (numbers_of cs) 0 (omega (arith, room)) in
      rw (length-drop (2 * y.count) ys) (omega (arith, same, first-long, room))

  from-middle : Chooses (hit_in bs) middle back z (drop (2 * y.count) ys) zs
  from-middle = subst (λ (q : Label). Chooses (hit_in bs) q back z (drop (2 * y.count) ys) zs) firstly.label latter

  second_none : z.refusal ≡ none
  second_none =
      let frames = sym (frames-append 0 (records_in front) (records_in back) between.frames) ∙ (ap (in_frames 0) (sym records-both) ∙ whole-accepted.frames) in
      refuses (hit_in bs) middle back z (drop (2 * y.count) ys) zs from-middle
      ∙ accepts (hit_in bs) middle back (length (drop (2 * y.count) ys)) (record { well = wells.1; frames = frames; table = tables.1; roomy = room-left })

  secondly : Takes (hit_in bs) middle back z (drop (2 * y.count) ys) zs
  secondly = takes (hit_in bs) middle back z (drop (2 * y.count) ys) zs from-middle second_none

  wholly : Takes (hit_in bs) l (front ++ back) x before xs
  wholly = takes (hit_in bs) l (front ++ back) x before xs one taken

  same-choices : take (2 * y.count) ys ++ zs ≡ xs
  same-choices =
      let two : take (2 * y.count) ys ++ laid (drop (2 * y.count) ys) (numbers_of ds) ≡ laid before (numbers_of cs ++ numbers_of ds) =
      rw firstly.list (rw zero-add at (laid_next before (numbers_of cs) (numbers_of ds) 0 (2 * y.count) (sym first-long) (omega (arith, room, first-long)))) in
      ap (λ (s : List ℕ). take (2 * y.count) ys ++ s) secondly.list ∙ (two ∙ (ap (laid before) (sym numbers-both) ∙ sym wholly.list))

  same-in-two : AnsweredInTwo x y z xs ys zs
  same-in-two =
      record {
        first = first-none;
        second = second_none;
        label = secondly.label ∙ (sym (kept_append (hit_in bs) (records_in back) l (records_in front)) ∙ (ap (kept_of (hit_in bs) l) (sym records-both) ∙ sym wholly.label));
        count = omega (arith, firstly.count, secondly.count, wholly.count, ap length chosen-both, length-append cs ds);
        choices = same-choices;
      }

pub a-call-cut-between-frames-is-two : CutsInTwo
a-call-cut-between-frames-is-two = record { cut = same-in-two }

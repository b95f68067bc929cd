-- `taken_records::are_taken` meets its contract. The loop keeps: the records that are left are taken, from where it stands, just where all of them are.
-- Assumes nothing.
use Rattle.std.proofs.Common.{◌≡◌, ℕ, ◌<◌, ◌≤◌, true, false, List, length, sym, ap, ◌∙◌, arith}
use Rattle.std.specs.Bool.{◌==◌}
use Rattle.slices.proofs.Tails.{tail-is}
use Rattle.house.specs.Layout.{record_of}
use Rattle.house.specs.declared.Record.{Record}
use Rattle.well_formed.specs.WellFormed.{well_as}
use Rattle.well_formed.proofs.Front.{well-long}
use Rattle.presses.specs.Choosing.{may_stand, due_after, is_legal, states_after}
use Rattle.taken_records.proofs.Judging.{judged-is, taken-end, taken-ill, taken-astray, taken-illegal, taken-on}
use Rattle.taken_records.proofs.are_taken.Goals.{then-not-is_well_formed-via-then-not-is_well_formed, then-not-is_well_formed-via-else-not-is_well_formed+then-not-may_stand, then-not-is_well_formed-via-else-not-is_well_formed+else-not-may_stand+then-not-follow}
use Rattle.taken_records.proofs.are_taken.Goals as goal

some : (l : List ℕ) → false ≡ (length l == 0) → 0 < length l
some l e = grind (arith, e)

none : (l : List ℕ) → true ≡ (length l == 0) → length l < 1
none l e = grind (arith, e)

long : (l : List ℕ) (found : Record) → true ≡ well_as l found → found ≡ record_of l → 21 ≤ length l
long l found e f = well-long l (judged-is l found true e f)

pub returns-then-not-is_well_formed : goal.returns-then-not-is_well_formed
returns-then-not-is_well_formed c =
    let l = c.loop-left.left.now in
    let due = c.loop-left.due in
    let kept = c.loop-left.kept in
    let found = c.read_record-found.ensures in
    let h = some l c.loop-left-test.ensures in
    elim c.then-not-is_well_formed.branch [
      | then-not-is_well_formed-via-then-not-is_well_formed w ↦ sym (taken-ill due kept l h (judged-is l _ _ w.if-not-is_well_formed.ensures found)) ∙ c.loop-left.invariant
      | then-not-is_well_formed-via-else-not-is_well_formed+then-not-may_stand w ↦
          sym (taken-astray due kept l h (judged-is l _ _ w.if-not-is_well_formed.ensures found) (sym (w.if-not-may_stand.ensures ∙ ap (may_stand due) found))) ∙ c.loop-left.invariant
      | then-not-is_well_formed-via-else-not-is_well_formed+else-not-may_stand+then-not-follow w ↦
          sym (taken-illegal due kept l h (judged-is l _ _ w.if-not-is_well_formed.ensures found) (sym (w.if-not-may_stand.ensures ∙ ap (may_stand due) found)) (sym (sym w.if-not-follow.true ∙ w.follow.ensures.0 ∙ ap (is_legal kept) found))) ∙ c.loop-left.invariant
    ]

pub slice_bounds-left-count : goal.slice_bounds-left-count
slice_bounds-left-count c = long c.loop-left.left.now c.read_record-found.result c.if-not-is_well_formed.ensures c.read_record-found.ensures

pub slice_bounds-left-start : goal.slice_bounds-left-start
slice_bounds-left-start c = long c.loop-left.left.now c.read_record-found.result c.if-not-is_well_formed.ensures c.read_record-found.ensures

pub loop-left-preserved : goal.loop-left-preserved
loop-left-preserved c =
    let l = c.loop-left.left.now in
    let due = c.loop-left.due in
    let kept = c.loop-left.kept in
    let found = c.read_record-found.ensures in
    let stood = sym (c.if-not-may_stand.ensures ∙ ap (may_stand due) found) in
    let followed = sym (sym c.if-not-follow.false ∙ c.follow.ensures.0 ∙ ap (is_legal kept) found) in
    rw (tail-is l 21, c.follow.ensures.1 ∙ ap (states_after kept) found, c.due_after-due.ensures ∙ ap (due_after due) found)
    (sym (taken-on due kept l (some l c.loop-left-test.ensures) (judged-is l _ _ c.if-not-is_well_formed.ensures found) stood followed) ∙ c.loop-left.invariant)

pub returns : goal.returns
returns c = sym (taken-end c.loop-left.due c.loop-left.kept c.loop-left.left.now (none c.loop-left.left.now c.loop-left-test.ensures)) ∙ c.loop-left.invariant

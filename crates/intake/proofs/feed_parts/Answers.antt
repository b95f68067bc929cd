-- `intake::feed_parts` meets its contract.
-- Assumes nothing.
use Prim.Native.Nat.{◌+◌, ◌*◌, ◌≤◌}
use mathlib.Core.Path.{sym, ap, ◌∙◌}
use native.Mathlib.Omega.{arith}
use lib.ListN.{length, length-drop}
use Rattle.slices.proofs.Tails.{tail-is}
use Rattle.contacts.specs.Ruling.{arrays_from}
use Rattle.receiver.specs.Receive.{of_parts}
use Rattle.intake.specs.declared.Fed.{Fed}
use Rattle.intake.specs.Feeding.{answer_numbers}
use Rattle.intake.proofs.Taking.{Bounded, stands-last, stands-stop, stands-next, found_inside, bounded}
use Rattle.intake.proofs.feed_parts.Goals as goal

pub overflow_add-to : goal.overflow_add-to
overflow_add-to c =
    let inside : c.loop-entries.used + 2 + c.in-Some.n ≤ length c.args.file.now = found_inside _ _ _ _ _ _ _ _ c.loop-entries.invariant _ (sym c.next_entry-next.ensures ∙ c.in-Some.is) in
    omega (arith, inside)

pub slice_bounds-message-end : goal.slice_bounds-message-end
slice_bounds-message-end c =
    let inside : c.loop-entries.used + 2 + c.in-Some.n ≤ length c.args.file.now = found_inside _ _ _ _ _ _ _ _ c.loop-entries.invariant _ (sym c.next_entry-next.ensures ∙ c.in-Some.is) in
    omega (arith, inside)

pub put_answer-requires : goal.put_answer-requires
put_answer-requires c =
    let fed : Fed = record { receiver = of_parts c.loop-entries.marks (arrays_from c.loop-entries.states c.loop-entries.xs c.loop-entries.ys c.loop-entries.held); entries = c.loop-entries.entries; used = c.loop-entries.used; records = c.loop-entries.records } in
    let few : Bounded c.loop-entries.output fed c.receive_parts-turn.result.answer = bounded _ _ _ _ _ _ _ _ c.loop-entries.invariant _ (sym c.next_entry-next.ensures ∙ c.in-Some.is) _ _ _ c.receive_parts-turn.ensures in
    let n = ap length (tail-is c.loop-entries.answers (answer_numbers * c.loop-entries.entries)) ∙ length-drop (answer_numbers * c.loop-entries.entries) c.loop-entries.answers in
    (omega (arith, c.loop-entries-test.true, c.loop-entries.invariant.list), omega (arith, few.small))

pub overflow_add-records : goal.overflow_add-records
overflow_add-records c =
    let fed : Fed = record { receiver = of_parts c.loop-entries.marks (arrays_from c.loop-entries.states c.loop-entries.xs c.loop-entries.ys c.loop-entries.held); entries = c.loop-entries.entries; used = c.loop-entries.used; records = c.loop-entries.records } in
    let few : Bounded c.loop-entries.output fed c.receive_parts-turn.result.answer = bounded _ _ _ _ _ _ _ _ c.loop-entries.invariant _ (sym c.next_entry-next.ensures ∙ c.in-Some.is) _ _ _ c.receive_parts-turn.ensures in
    omega (arith, few.records, c.loop-entries.invariant.long)

pub loop-entries-preserved : goal.loop-entries-preserved
loop-entries-preserved c =
    stands-next _ _ _ _ _ _ _ _ c.loop-entries.invariant _ (sym c.next_entry-next.ensures ∙ c.in-Some.is) _ _ _ c.receive_parts-turn.ensures _ c.loop-entries-test.true c.put_answer.ensures

pub returns-after-loop-entries : goal.returns-after-loop-entries
returns-after-loop-entries c = stands-last _ _ _ _ _ _ _ _ c.loop-entries.invariant c.loop-entries-test.false

pub returns-in_default : goal.returns-in_default
returns-in_default c =
    stands-stop _ _ _ _ _ _ _ _ c.loop-entries.invariant (sym c.next_entry-next.ensures ∙ c.in_default.is)

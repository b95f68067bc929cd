-- `panel_touch::write_touch_parts` meets its contract: nothing is written, and the contacts stay as they were, until all is judged.
-- Assumes nothing.
use mathlib.Core.Path.{refl, sym, ap}
use Rattle.slices.specs.Writing.{refuse}
use Rattle.contacts.specs.Ruling.{table_from}
use Rattle.panels.specs.Panel.{panel_of_parts}
use Rattle.panels.specs.declared.Panel.{Panel}
use Rattle.panels.proofs.Sendings.{sends-refused, sends-failed, sends-done}
use Rattle.panel_touch.proofs.Touching.{Permitted, touch-refused, touch-permitted, frames-read, are-frames, touch-told, touch-fault, touch-due, touch-leaves}
use Rattle.panel_touch.proofs.write_touch_parts.Goals as goal

pub returns-in-Err : goal.returns-in-Err
returns-in-Err c =
    let lent : Panel =
    panel_of_parts c.args.marks (table_from c.args.states.now c.args.xs.now c.args.ys.now) in
    let no = touch-refused lent c.args.time c.args.records.now _ c.in-Err.ensures in
    sends-refused _ _ _ _ _ no _ _ (ap refuse (sym c.number.ensures)) c.refuse.ensures

pub judge_frames-requires : goal.judge_frames-requires
judge_frames-requires c =
    let lent : Panel =
    panel_of_parts c.args.marks (table_from c.args.states.now c.args.xs.now c.args.ys.now) in
    let w : Permitted lent c.args.time c.args.records.now c.in-Ok.frames =
    touch-permitted _ _ _ _ c.in-Ok.ensures in
    are-frames _ _ _ _ w

pub returns-in-Err-judge_frames : goal.returns-in-Err-judge_frames
returns-in-Err-judge_frames c =
    let lent : Panel =
    panel_of_parts c.args.marks (table_from c.args.states.now c.args.xs.now c.args.ys.now) in
    let w : Permitted lent c.args.time c.args.records.now c.in-Ok.frames =
    touch-permitted _ _ _ _ c.in-Ok.ensures in
    let fault = c.in-Err-judge_frames.ensures.fault w.frames w.rest (frames-read _ _ _ _ w) in
    sends-refused _ _ _ _ _ (touch-fault _ _ _ _ w _ fault) _ _ (ap refuse (sym c.number-in-Err-judge_frames.ensures)) c.refuse-in-Err-judge_frames.ensures

pub returns-then-message-ne0 : goal.returns-then-message-ne0
returns-then-message-ne0 c =
    let lent : Panel =
    panel_of_parts c.args.marks (table_from c.args.states.now c.args.xs.now c.args.ys.now) in
    let w : Permitted lent c.args.time c.args.records.now c.in-Ok.frames =
    touch-permitted _ _ _ _ c.in-Ok.ensures in
    let fault = c.in_default.ensures.fault w.frames w.rest (frames-read _ _ _ _ w) in
    sends-failed _ _ _ _ _ (touch-due _ _ _ _ w fault) _ _ c.write_touch-message.ensures c.if-message-ne0.true _ c.refuse-then-message-ne0.ensures

pub returns : goal.returns
returns c =
    let lent : Panel =
    panel_of_parts c.args.marks (table_from c.args.states.now c.args.xs.now c.args.ys.now) in
    let w : Permitted lent c.args.time c.args.records.now c.in-Ok.frames =
    touch-permitted _ _ _ _ c.in-Ok.ensures in
    let read = frames-read _ _ _ _ w in
    let fault = c.in_default.ensures.fault w.frames w.rest read in
    let left = c.in_default.ensures.table w.frames w.rest read refl in
    sends-done _ _ _ _ _ (touch-due _ _ _ _ w fault) _ _ c.write_touch-message.ensures (touch-told _ _ _ _ w) c.if-message-ne0.false _ (touch-leaves _ _ _ _ w _ _ c.begun_after.ensures left)

-- `panel_touch::judging::step` meets its contract.
-- Assumes nothing.
use mathlib.Core.Path.{ap, ◌∙◌}
use Rattle.formats.proofs.Steps.{tail}
use Rattle.recordings.specs.Answer.{contacts_after}
use Rattle.contacts.specs.Ruling.{table_from}
use Rattle.panel_checks.proofs.Recorded.{parts}
use Rattle.panel_touch.proofs.Stepping.{step-fails, step-goes}
use Rattle.panel_touch.proofs.judging.step.Goals as goal

pub slice_bounds-rest-count : goal.slice_bounds-rest-count
slice_bounds-rest-count c = let b = c.requires in (parts c.args.frame.now b.frame b.after b.read).long

pub slice_bounds-rest-start : goal.slice_bounds-rest-start
slice_bounds-rest-start c = let b = c.requires in (parts c.args.frame.now b.frame b.after b.read).long

pub returns-in_err-after : goal.returns-in_err-after
returns-in_err-after c f rest e k =
    let a = c.args in
    let count = c.contacts_after-count.ensures ∙ ap contacts_after c.read_record.ensures in
    rw c.from_residual.ensures (step-fails a.most a.frame.now f rest e _ _ (tail a.frame.now 21) _ count (λ i. (c.type_inv.frame i).fits) _ k c.in_err-after.ensures (table_from a.states.now a.xs.now a.ys.now))

pub returns : goal.returns
returns c f rest e k =
    let a = c.args in
    let count = c.contacts_after-count.ensures ∙ ap contacts_after c.read_record.ensures in
    step-goes a.most a.frame.now f rest e _ _ (tail a.frame.now 21) _ count (λ i. (c.type_inv.frame i).fits) _ k _ c.in_ok-after.ensures c.apply-behind.result _ c.apply-behind.ensures.value

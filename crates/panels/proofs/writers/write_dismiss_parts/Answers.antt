-- `panels::writers::write_dismiss_parts` meets its contract.
-- Assumes nothing.
use borrow.Author.Tests.{eq-eqb, ne_eqb}
use mathlib.Core.Path.{refl}
use Rattle.machine.specs.Table.{state_at}
use Rattle.contacts.specs.Ruling.{table_from}
use Rattle.panels.specs.Panel.{panel_of_parts}
use Rattle.panels.specs.declared.Panel.{Panel}
use Rattle.panels.proofs.Drafts.{dismiss-told}
use Rattle.panels.proofs.Sendings.{sends-refused, sends-failed, sends-done, dismiss-early, dismiss-illegal, dismiss-due, dismiss-leaves}
use Rattle.panels.proofs.writers.write_dismiss_parts.Goals as goal

pub returns-then-marks-eq0 : goal.returns-then-marks-eq0
returns-then-marks-eq0 c =
    let lent : Panel =
    panel_of_parts c.args.marks (table_from c.args.states.now c.args.xs.now c.args.ys.now) in
    sends-refused _ _ _ _ _ (dismiss-early lent c.args.id (eq-eqb _ _ c.if-marks-eq0.true)) _ _ refl (rw c.number.ensures at c.refuse.ensures)

pub returns-then-states-id-ne-HOVERING : goal.returns-then-states-id-ne-HOVERING
unfolding state_at
returns-then-states-id-ne-HOVERING c =
    let lent : Panel =
    panel_of_parts c.args.marks (table_from c.args.states.now c.args.xs.now c.args.ys.now) in
    sends-refused _ _ _ _ _ (dismiss-illegal lent c.args.id (ne_eqb _ _ c.if-marks-eq0.false) c.if-states-id-ne-HOVERING.true) _ _ refl (rw c.number-then-states-id-ne-HOVERING.ensures at c.refuse-then-states-id-ne-HOVERING.ensures)

pub returns-then-written-ne0 : goal.returns-then-written-ne0
unfolding state_at
returns-then-written-ne0 c =
    let lent : Panel =
    panel_of_parts c.args.marks (table_from c.args.states.now c.args.xs.now c.args.ys.now) in
    sends-failed _ _ _ _ _ (dismiss-due lent c.args.id (ne_eqb _ _ c.if-marks-eq0.false) c.if-states-id-ne-HOVERING.false) _ _ c.write_dismiss-written.ensures c.if-written-ne0.true _ c.refuse-then-written-ne0.ensures

pub returns : goal.returns
unfolding state_at
returns c =
    let lent : Panel =
    panel_of_parts c.args.marks (table_from c.args.states.now c.args.xs.now c.args.ys.now) in
    sends-done _ _ _ _ _ (dismiss-due lent c.args.id (ne_eqb _ _ c.if-marks-eq0.false) c.if-states-id-ne-HOVERING.false) _ _ c.write_dismiss-written.ensures (dismiss-told c.args.id) c.if-written-ne0.false _ (dismiss-leaves lent c.args.id c.if-states-id-ne-HOVERING.false _ c.store.ensures)

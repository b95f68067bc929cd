-- `panels::writers::write_ready_parts` meets its contract.
-- Assumes nothing.
use mathlib.Core.Path.{refl, sym, ◌∙◌}
use Rattle.panels.specs.Panel.{panel_of_parts, ready_sending}
use Rattle.panels.proofs.Drafts.{client-ready-told}
use Rattle.panels.proofs.Sendings.{sends-refused, sends-failed, sends-done, ready-early, ready-due}
use Rattle.panels.proofs.writers.write_ready_parts.Goals as goal

pub returns-then-not-may_declare : goal.returns-then-not-may_declare
returns-then-not-may_declare c t =
    let no = ready-early (panel_of_parts c.args.marks t) _ (sym c.may_declare.ensures ∙ c.if-not-may_declare.true) in
    sends-refused _ t _ _ _ no _ _ refl (rw c.number.ensures at c.refuse.ensures)

pub returns-then-written-ne0 : goal.returns-then-written-ne0
returns-then-written-ne0 c t =
    let due = ready-due (panel_of_parts c.args.marks t) _ (sym c.may_declare.ensures ∙ c.if-not-may_declare.false) in
    sends-failed _ t _ _ _ due _ _ c.write_client_ready-written.ensures c.if-written-ne0.true _ c.refuse-then-written-ne0.ensures

pub returns : goal.returns
unfolding ready_sending
returns c t =
    let due = ready-due (panel_of_parts c.args.marks t) _ (sym c.may_declare.ensures ∙ c.if-not-may_declare.false) in
    sends-done _ t _ _ _ due _ _ c.write_client_ready-written.ensures (client-ready-told _) c.if-written-ne0.false _ refl

-- `receiving::receive_parts` meets its contract.
-- Assumes nothing.
use mathlib.Core.Path.{refl, ap, ◌∙◌}
use borrow.Author.Tests.{eq-eqb, ne_eqb}
use Rattle.formats.specs.Format.{bad}
use Rattle.receiver.proofs.Answering.{gives-refused, gives-receives, turned_same}
use Rattle.receiving.proofs.Bodies.{ready_refused, ready-touch, ready-dismiss}
use Rattle.receiving.proofs.receive_parts.Goals as goal

pub returns-then-marks-eq0 : goal.returns-then-marks-eq0
returns-then-marks-eq0 c = gives-receives _ _ _ _ _ _ refl (c.receive_ready.ensures (eq-eqb _ 0 c.if-marks-eq0.true) _ _)

pub returns-in-Err : goal.returns-in-Err
returns-in-Err c =
    gives-receives _ _ _ _ _ _ refl
    (gives-refused _ _ _ _ _ (ready_refused _ _ (ne_eqb _ 0 c.if-marks-eq0.false) _ (ap bad c.number.ensures ∙ c.in-Err.ensures.value)) (turned_same _ _ _ c.refuse.ensures))

pub returns-in-Ok-eq3-default : goal.returns-in-Ok-eq3-default
returns-in-Ok-eq3-default c =
    gives-receives _ _ _ _ _ _ (ready-touch _ _ (ne_eqb _ 0 c.if-marks-eq0.false) _ _ c.in-Ok-eq3-default.ensures.value c.in-Ok-eq3-default.field-0-0-test) c.receive_touch.ensures

pub returns-in-Ok : goal.returns-in-Ok
returns-in-Ok c =
    gives-receives _ _ _ _ _ _ (ready-dismiss _ _ (ne_eqb _ 0 c.if-marks-eq0.false) _ _ c.in-Ok.ensures.value c.in-Ok.field-0-0-test.1) c.receive_dismiss.ensures

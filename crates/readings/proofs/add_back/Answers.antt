-- `readings::add_back` meets its contract: the records are within the output, and the message that is written within what it is written to.
-- Assumes nothing.
use mathlib.Core.Path.{refl}
use borrow.Author.Tests.{ne_eqb}
use Rattle.lines.proofs.Adding.{added_none}
use Rattle.readings.specs.Line.{back_text}
use Rattle.readings.proofs.Laws.{same-is, back-said}
use Rattle.readings.proofs.add_back.Goals as goal

pub returns-then-answer-ne0 : goal.returns-then-answer-ne0
unfolding back_text
returns-then-answer-ne0 c = rw (ne_eqb _ _ c.if-answer-ne0.true) (added_none _ _)

pub returns : goal.returns
returns c =
    back-said _ _ _ _ _ _ _ _ _ _ _ _ _ c.if-answer-ne0.false c.write_touch-written.ensures refl refl (same-is _ _ _ c.same-same.ensures) c.add_outcome.ensures

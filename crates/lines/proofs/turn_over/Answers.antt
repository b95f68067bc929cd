-- `lines::turn_over` meets its contract.
-- Assumes nothing.
use mathlib.Core.Path.{◌∙◌}
use native.Mathlib.Omega.{arith}
use Rattle.lines.proofs.Printing.{turned-not, turned-over}
use Rattle.lines.proofs.turn_over.Goals as goal

pub returns-then-page-at : goal.returns-then-page-at
returns-then-page-at c = turned-over _ _ _ (omega (arith, c.if-page-at.true))

pub returns-then-page-at-2 : goal.returns-then-page-at-2
returns-then-page-at-2 c = c.write_out.ensures ∙ turned-over _ _ _ (omega (arith, c.if-page-at-2.true, c.if-page-at.false))

pub returns : goal.returns
returns c = turned-not _ _ _ (omega (arith, c.if-page-at-2.false, c.if-page-at.false))

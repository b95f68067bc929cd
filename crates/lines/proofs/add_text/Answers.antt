-- `lines::add_text` meets its contract.
-- Assumes nothing.
use Rattle.lines.proofs.Adding.{added-behind, added-tail}
use Rattle.lines.proofs.add_text.Goals as goal

pub returns-then-page-at : goal.returns-then-page-at
returns-then-page-at c = added-behind _ _ _ c.if-page-at.true

pub returns : goal.returns
returns c = added-tail _ _ _ _ _ c.if-page-at.false c.lay-written.ensures

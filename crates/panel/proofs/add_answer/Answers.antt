-- `panel::add_answer` meets its contract: the word, or what was answered and written.
-- Assumes nothing.
use Rattle.panel.proofs.Laws.{line_known, line-bad}
use Rattle.panel.proofs.add_answer.Goals as goal

pub returns-then-obeyed : goal.returns-then-obeyed
returns-then-obeyed c = rw (line_known c.args.obeyed c.args.output.now c.if-obeyed.true) c.add_written.ensures

pub returns : goal.returns
returns c = rw (line-bad c.args.obeyed c.args.output.now c.if-obeyed.false) c.add_text.ensures

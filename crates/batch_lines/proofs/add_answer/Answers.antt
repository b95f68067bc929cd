-- `batch_lines::add_answer` meets its contract: the name, the numbers and the records, or nothing.
-- Assumes nothing.
use borrow.Author.Tests.{le-leb, lt-leb}
use Rattle.lines.proofs.Adding.{added_none, added_then}
use Rattle.batch_lines.specs.Lines.{answer_text}
use Rattle.batch_lines.proofs.add_answer.Goals as goal

pub returns-then-answer-lt-ANSWER_NUMBERS : goal.returns-then-answer-lt-ANSWER_NUMBERS
unfolding answer_text
returns-then-answer-lt-ANSWER_NUMBERS c = rw (lt-leb _ _ c.if-answer-lt-ANSWER_NUMBERS.true) (added_none _ _)

pub returns : goal.returns
unfolding answer_text
returns c =
    let b = c.before.before.before.before in
    let n = b.before.before.before.before in
    let m = n.before.before.before.before in
    rw (le-leb _ _ m.if-answer-lt-ANSWER_NUMBERS.false) (added_then m.add_name-named.ensures (added_then n.add_numbers-told.ensures (rw b.bytes_of-bytes.ensures.0 at c.add_front.ensures)))

-- `message_writers::write::write_suspend` meets its contract: a message with no body is its header.
-- Assumes nothing.
use Rattle.message_writers.proofs.Writing.{suspend-draft}
use Rattle.message_writers.proofs.write.write_suspend.Goals as goal

pub returns : goal.returns
returns c = rw suspend-draft c.write_header.ensures

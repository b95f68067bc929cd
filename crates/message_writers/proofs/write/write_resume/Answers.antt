-- `message_writers::write::write_resume` meets its contract: a message with no body is its header.
-- Assumes nothing.
use Rattle.message_writers.proofs.Writing.{resume-draft}
use Rattle.message_writers.proofs.write.write_resume.Goals as goal

pub returns : goal.returns
returns c = rw resume-draft c.write_header.ensures

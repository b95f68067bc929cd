-- `histories::print_opened` meets its contract.
-- Assumes nothing.
use Rattle.report.proofs.Lines.{printed-where-enough}
use Rattle.histories.proofs.print_opened.Goals as goal

pub returns : goal.returns
returns c = printed-where-enough c.print_file.ensures c.requires

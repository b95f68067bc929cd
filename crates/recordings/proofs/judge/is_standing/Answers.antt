-- `recordings::judge::is_standing` meets its contract: the record that was read is the one that is there.
-- Assumes nothing.
use mathlib.Core.Path.{◌∙◌}
use Rattle.recordings.proofs.Judged.{stands_read}
use Rattle.recordings.proofs.judge.is_standing.Goals as goal

pub returns : goal.returns
returns c = c.is_of_kind.ensures ∙ stands_read _ _ _ c.read_record.ensures

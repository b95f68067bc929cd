-- `writing::numbers::put` meets its contract: in range and with room, it is written.
-- Assumes nothing.
use Rattle.writing.proofs.Putting.{put-integer}
use Rattle.writing.proofs.numbers.put.Goals as goal

pub returns : goal.returns
returns g c = put-integer _ _ _ _ _ _ _ c.requires.0 c.requires.1 c.write.ensures

-- `message_writers::write::write_header` meets its contract: 13, or the header.
-- Assumes nothing.
use mathlib.Core.Path.{refl}
use native.Mathlib.Omega.{arith}
use Rattle.formats.specs.Format.{write_little}
use Rattle.slices.proofs.Laws.{writes_bytes, writes-none}
use Rattle.message_writers.proofs.write.write_header.Goals as goal

pub returns-then-out-lt-HEADER_BYTES : goal.returns-then-out-lt-HEADER_BYTES
unfolding write_little
returns-then-out-lt-HEADER_BYTES c = writes-none _ _ _ _ c.if-out-lt-HEADER_BYTES.true c.refused.ensures refl

pub returns : goal.returns
unfolding write_little
returns c =
    let p = c.put_header.ensures in
    writes_bytes _ _ _ _ (omega arith) (rw p.count at c.done.ensures) p.output

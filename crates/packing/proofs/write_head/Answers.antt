-- `packing::write_head` meets its contract: where there is room the fields go into the output, and otherwise nothing does.
-- Assumes nothing.
use mathlib.Core.Path.{refl, ◌∙◌}
use native.Mathlib.Omega.{arith}
use Rattle.slices.proofs.Laws.{writes_bytes, writes-none}
use Rattle.house.proofs.Round.{length-head}
use Rattle.packing.proofs.write_head.Goals as goal

pub returns-then-out-lt-RECORD_BYTES : goal.returns-then-out-lt-RECORD_BYTES
returns-then-out-lt-RECORD_BYTES c =
    let a = c.args in
    let n = length-head a.head in
    writes-none _ _ _ _ (omega arith) c.refused.ensures refl

pub returns : goal.returns
returns c =
    let n = length-head c.args.head in
    writes_bytes _ _ _ _ (omega arith) (c.done.ensures ∙ rw n) c.fill_head.ensures

-- `lines::add_number` meets its contract.
-- Assumes nothing.
use mathlib.Core.Path.{◌∙◌}
use native.Mathlib.Omega.{arith}
use Rattle.lines.proofs.Decimal.{decimal-digits}
use Rattle.lines.proofs.add_number.Goals as goal

pub returns : goal.returns
returns c =
    let d = c.decimal-k in
    let t = d.ensures.digits ∙ decimal-digits _ _ (omega arith) d.ensures.len in
    rw t at c.add_text.ensures

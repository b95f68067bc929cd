-- `lines::add_byte` meets its contract.
-- Assumes nothing.
use mathlib.Core.Path.{refl}
use native.Mathlib.Omega.{arith}
use Rattle.lines.proofs.Adding.{added-yes, added-no, byte-stored}
use Rattle.lines.proofs.add_byte.Goals as goal

pub returns-then-at-page : goal.returns-then-at-page
returns-then-at-page c = added-yes _ _ _ _ _ (omega arith) refl (byte-stored _ _ _ c.if-at-page.true)

pub returns : goal.returns
returns c = added-no _ _ _ _ _ (omega arith) refl refl

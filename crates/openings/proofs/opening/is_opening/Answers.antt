-- `openings::opening::is_opening` meets its contract: with no contact nothing opens; otherwise one of the two rules does, or none.
-- Assumes nothing.
use mathlib.Core.Path.{sym, ◌∙◌}
use native.Mathlib.Omega.{arith}
use Rattle.openings.proofs.Reading.{read_none, read-opening}
use Rattle.openings.proofs.opening.is_opening.Goals as goal

pub returns-then-n-eq0 : goal.returns-then-n-eq0
returns-then-n-eq0 c =
    let a = c.args in
    sym (read_none a.held.now a.n a.rest.now c.if-n-eq0.true)

pub returns-then-all_pass : goal.returns-then-all_pass
returns-then-all_pass c =
    let a = c.args in
    sym (read-opening a.held.now a.n a.rest.now (omega arith) ∙ rw (sym c.all_pass.ensures ∙ c.if-all_pass.true))

pub returns : goal.returns
returns c =
    let a = c.args in
    c.all_pass-2.ensures ∙ sym (read-opening a.held.now a.n a.rest.now (omega arith) ∙ rw (sym c.all_pass.ensures ∙ c.if-all_pass.false))

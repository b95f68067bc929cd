-- `report::print_last` meets its contract.
-- Assumes nothing.
use Rattle.report.proofs.Lines.{cut-printed}
use Rattle.report.proofs.print_last.Goals as goal

pub returns-then-window : goal.returns-then-window
returns-then-window c =
    let a = c.before.before in
    let t = a.before.before in
    let i = t.before.before in
    let p = i.requires in
    cut-printed _ _ _ _ _ _ _ i.if-window.true p.0 p.1 t.turn_over-at.ensures a.add_cut.ensures

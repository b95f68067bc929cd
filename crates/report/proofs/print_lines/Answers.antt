-- `report::print_lines` meets its contract: what was printed and what is still to be are the whole.
-- Assumes nothing.
use Rattle.report.proofs.Lines.{underway-next, underway-last}
use Rattle.report.proofs.print_lines.Goals as goal

pub loop-left-preserved : goal.loop-left-preserved
loop-left-preserved c =
    let t = c.before.before in
    let p = t.before.before.before in
    underway-next _ _ _ _ _ _ _ _ _ _ p.loop-left.invariant p.loop-left-test.true _ _ t.print_line-at.ensures

pub returns : goal.returns
returns c = underway-last _ _ _ _ _ _ _ _ _ _ c.loop-left.invariant c.loop-left-test.false

-- `report::print_line` meets its contract: a line is no longer than the room that the page has for it.
-- Assumes nothing.
use Rattle.report.proofs.Lines.{line-printed}
use Rattle.report.proofs.print_line.Goals as goal

pub returns : goal.returns
returns c =
    let l = c.before.before in
    let t = l.before.before in
    let s = t.before.before.before.before in
    let p = s.requires in
    line-printed _ s.args.answer.now _ _ _ _ _ p.1 p.2 t.turn_over-at.ensures l.add_line.ensures

-- `touch_events::carry_counted` meets its contract: there is room for the records that were counted, or not.
-- Assumes nothing.
use Rattle.receiver.proofs.Answering.{turned_same}
use Rattle.touch_events.proofs.Touching.{settles-none, settles-done}
use Rattle.touch_events.proofs.carry_counted.Goals as goal

pub returns-then-records-output : goal.returns-then-records-output
returns-then-records-output c =
    settles-done _ _ _ _ _ _ c.tally-records.ensures _ _ c.if-records-output.true c.carry_out.ensures

pub returns : goal.returns
returns c =
    settles-none _ _ _ _ _ _ c.tally-records.ensures _ _ c.number.ensures c.if-records-output.false (turned_same _ _ _ c.refuse.ensures)

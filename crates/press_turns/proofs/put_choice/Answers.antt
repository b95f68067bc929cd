-- `press_turns::put_choice` meets its contract: each test picks a case.
-- Assumes nothing.
use Rattle.std.proofs.Common.{le-ltb, lt-ltb}
use Rattle.presses.specs.Turns.{put_choices}
use Rattle.press_turns.proofs.put_choice.Goals.{else-chose-via-then-chose+then-writing+else-n-choices, else-chose-via-then-chose+else-writing, else-chose-via-else-chose}
use Rattle.press_turns.proofs.put_choice.Goals as goal

pub returns-then-n-choices : goal.returns-then-n-choices
unfolding put_choices
returns-then-n-choices c = rw (c.if-chose.true, c.if-writing.true, lt-ltb _ _ c.if-n-choices.true)

pub returns-else-chose : goal.returns-else-chose
unfolding put_choices
returns-else-chose c = elim c.else-chose.branch [
  | else-chose-via-then-chose+then-writing+else-n-choices w ↦ rw (w.if-chose.true, w.if-writing.true, le-ltb _ _ w.if-n-choices.false)
  | else-chose-via-then-chose+else-writing w ↦ rw (w.if-chose.true, w.if-writing.false)
  | else-chose-via-else-chose w ↦ rw w.if-chose.false
]

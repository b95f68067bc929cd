-- `writing::message::check_records` meets its contract: 10, then 14 over all records.
-- Assumes nothing.
use Prim.Native.Nat.{◌<◌, ◌≤◌}
use mathlib.Core.Path.{sym, ap, ◌∙◌}
use native.Mathlib.Omega.{arith}
use Rattle.integers.specs.Integer.{limit}
use Rattle.recordings.specs.Answer.{counted}
use Rattle.writing.proofs.Checked.{checked-late, checked-early}
use Rattle.writing.proofs.message.check_records.Goals as goal

pub returns-then-time-gt-TIME_MOST : goal.returns-then-time-gt-TIME_MOST
returns-then-time-gt-TIME_MOST c =
    let a = c.args in
    let late : limit 2 0 ≤ a.time.0 = omega (arith, c.if-time-gt-TIME_MOST.true) in
    sym (ap counted (checked-late a.time a.records.now late))

pub returns : goal.returns
returns c =
    let a = c.args in
    let early : a.time.0 < limit 2 0 = omega (arith, c.if-time-gt-TIME_MOST.false) in
    c.count_frames.ensures ∙ ap counted (sym (checked-early a.time a.records.now early))

-- `writing::lengths::message_bytes` meets its contract: the header's bytes, the head's and the records'.
-- Assumes nothing.
use Prim.Native.Nat.{◌+◌, ◌*◌, ◌≤◌}
use native.Mathlib.Omega.{arith}
use Rattle.writing.specs.Limits.{most_spelt}
use Rattle.spelling.proofs.Measured.{touch-head-sized}
use Rattle.writing.proofs.Measured.{spelt-most}
use Rattle.writing.proofs.lengths.message_bytes.Goals as goal

pub overflow_add-body : goal.overflow_add-body
overflow_add-body c =
    let small : c.touch_head_bytes.result + c.records_bytes.result ≤ 16 + 81 * most_spelt =
    let t = touch-head-sized (record { time = c.args.time; frames = c.args.frames }) in
    omega (arith, c.touch_head_bytes.ensures, t.sum, t.bound, c.records_bytes.ensures, spelt-most c.args.count c.args.records.now, c.requires.1) in
    omega (arith, small)

pub overflow_add-result : goal.overflow_add-result
overflow_add-result c =
    let small : c.touch_head_bytes.result + c.records_bytes.result ≤ 16 + 81 * most_spelt =
    let t = touch-head-sized (record { time = c.args.time; frames = c.args.frames }) in
    omega (arith, c.touch_head_bytes.ensures, t.sum, t.bound, c.records_bytes.ensures, spelt-most c.args.count c.args.records.now, c.requires.1) in
    omega (arith, small)

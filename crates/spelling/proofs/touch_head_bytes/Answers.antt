-- `spelling::touch_head_bytes` meets its contract: the bytes of encodeTime and of the count of frames.
-- Assumes nothing.
use native.Mathlib.Omega.{arith}
use Rattle.spelling.proofs.Measured.{touch-head-sized}
use Rattle.spelling.proofs.touch_head_bytes.Goals as goal

pub overflow_add-result : goal.overflow_add-result
overflow_add-result c =
    let a = c.args in
    omega (arith, c.bytes.ensures, c.bytes-2.ensures, (touch-head-sized (record { time = a.time; frames = a.frames })).bound)

pub returns : goal.returns
returns c =
    let a = c.args in
    omega (arith, c.bytes.ensures, c.bytes-2.ensures, (touch-head-sized (record { time = a.time; frames = a.frames })).sum)

-- `spelling::frame_head_bytes` meets its contract: the count's bytes and the offset's.
-- Assumes nothing.
use native.Mathlib.Omega.{arith}
use Rattle.spelling.proofs.Measured.{head-sized}
use Rattle.spelling.proofs.frame_head_bytes.Goals as goal

pub overflow_add-result : goal.overflow_add-result
overflow_add-result c = omega (arith, c.bytes.ensures, c.bytes-2.ensures, (head-sized c.args.head).bound)

pub returns : goal.returns
returns c = omega (arith, c.bytes.ensures, c.bytes-2.ensures, (head-sized c.args.head).sum)

-- `bench::print_input` meets its contract: each array is as long as is asked for.
-- Assumes nothing.
use native.Mathlib.Omega.{arith}
use Rattle.report.proofs.Lines.{printed-where-enough}
use Rattle.bench.proofs.print_input.Goals as goal

pub returns : goal.returns
returns c = printed-where-enough c.print_file.ensures (record { entry = omega arith; answer = omega arith; records = omega arith; line = omega arith })

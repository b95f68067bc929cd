-- `records::run` is safe: the records that were written lie within the output.
-- Assumes nothing.
use native.Mathlib.Omega.{arith}
use Rattle.records.proofs.run.Goals as goal

pub write_records-requires : goal.write_records-requires
write_records-requires c = omega (arith, c.go_on-round.ensures.fed.room)

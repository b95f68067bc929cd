-- `integer_writers::writer::put` meets its contract: the digits, and byte one before them.
-- Assumes nothing.
use native.Mathlib.Omega.{arith}
use Rattle.integer_writers.proofs.Fill.{placed}
use Rattle.integer_writers.proofs.writer.put.Goals as goal

pub returns : goal.returns
returns c =
    let a = c.args in
    rw (c.fill-top.ensures.1, c.fill-top.ensures.0) (placed a.t a.q a.c a.s a.m a.out.now (omega arith))

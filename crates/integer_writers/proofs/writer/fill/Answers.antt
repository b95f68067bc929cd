-- `integer_writers::writer::fill` meets its contract: j digits are in place, from behind.
-- Assumes nothing.
use Prim.Native.Nat.{◌<◌}
use mathlib.Core.Path.{◌≡◌, ◌∙◌}
use native.Mathlib.Numerals.{add-one}
use native.Mathlib.Omega.{arith}
use Rattle.digits.proofs.Laws.{digit-step}
use Rattle.integer_writers.proofs.Fill.{filled_none, filled_more, filled-all}
use Rattle.integer_writers.proofs.writer.fill.Goals as goal

pub loop-j-init : goal.loop-j-init
loop-j-init c = (omega arith, filled_none c.args.out.now c.args.c c.args.m)

pub loop-j-preserved : goal.loop-j-preserved
loop-j-preserved c =
    let a = c.args in
    let l = c.loop-j in
    let less : l.j < a.c = omega arith in (
      rw (l.invariant.0, add-one) (digit-step a.m l.j),
      rw (l.invariant.0, l.invariant.1) (filled_more a.out.now a.c l.j a.m less c.requires),
    )

pub returns : goal.returns
returns c =
    let l = c.loop-j in
    let all : l.j ≡ c.args.c = omega arith in
    (rw all at l.invariant.0, (rw all at l.invariant.1) ∙ filled-all _ _ _)

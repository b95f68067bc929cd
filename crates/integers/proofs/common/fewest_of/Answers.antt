-- `integers::common::fewest_of` meets its contract: c bytes are counted, and the fewest for v are to come.
-- Assumes nothing.
use Prim.Native.Nat.{suc, ◌+◌, ◌-◌}
use mathlib.Core.Path.{◌≡◌, ap}
use native.Mathlib.Omega.{arith}
use Rattle.integers.specs.Integer.{fewest}
use Rattle.integers.proofs.Fewest.{fewest-step, fewest-stop}
use Rattle.integers.proofs.common.fewest_of.Goals as goal

pub returns-then-v-tops : goal.returns-then-v-tops
returns-then-v-tops c =
    let l = c.loop-c in
    omega (arith, fewest-stop (7 - l.c) c.args.tops l.v c.if-v-tops.true)

pub loop-c-preserved : goal.loop-c-preserved
loop-c-preserved c =
    let l = c.loop-c in
    let r = c.args.tops in
    let left : 7 - l.c ≡ suc (7 - (l.c + 1)) = omega arith in
    omega (arith, ap (λ k. fewest k r l.v) left, fewest-step (7 - (l.c + 1)) r l.v c.if-v-tops.false)

pub returns : goal.returns
unfolding fewest
returns c =
    let l = c.loop-c in
    let left : 7 - l.c ≡ 0 = omega arith in
    omega (arith, ap (λ k. fewest k c.args.tops l.v) left)

-- `integer_writers::lengths::bytes` meets its contract: byte one, and the fewest further bytes.
-- Assumes nothing.
use Prim.Native.Nat.{◌+◌}
use mathlib.Core.Path.{sym, ap, ◌∙◌}
use native.Mathlib.Omega.{arith}
use Rattle.integers.specs.Integer.{fewest, furthest, tops, signs}
use Rattle.integers.proofs.Fewest.{fewest-most}
use Rattle.integers.proofs.Laws.{length-formed}
use Rattle.integer_writers.proofs.lengths.bytes.Goals as goal

pub overflow_add-result : goal.overflow_add-result
overflow_add-result g c =
    omega (arith, c.fewest_of.ensures, fewest-most furthest c.from.result c.split-size.result.1)

pub returns : goal.returns
returns g c =
    let i = g.T.Integer in
    let t = tops i.COUNT_BITS i.SIGN_BITS in
    let few = rw (c.from.ensures, c.tops.ensures, c.split-size.ensures) at c.fewest_of.ensures in
    ap (λ n. n + 1) few ∙ sym (length-formed t (signs i.SIGN_BITS) (fewest furthest t (i.shape.size c.args.value)) (i.shape.sign c.args.value) (i.shape.size c.args.value))

-- `integers::found::is_only_form` meets its contract: the two tests are those of `only`.
-- Assumes nothing.
use Prim.Native.Nat.{ℕ, ◌+◌}
use mathlib.Core.Path.{◌≡◌}
use mathlib.Core.Bool.{cond, ◌&&◌}
use native.Mathlib.Omega.{arith}
use lib.Dec.{eqb, leb}
use Rattle.std.proofs.lemmas.Bool.Decides.{nat_tests}
use Rattle.paper.specs.Refusals.{not_shortest}
use Rattle.integers.specs.Integer.{fewest, furthest, value, refused, only}
use Rattle.integers.proofs.Fewest.{fewest-most}
use Rattle.integers.proofs.found.is_only_form.Goals as goal

tested : (t s m n : ℕ) → only t (value s m n) ≡ cond (eqb n (fewest furthest t m + 1) && leb s m) (value s m n) (refused not_shortest)
unfolding only
tested t s m n = grind (arith, nat_tests)

pub overflow_add-result : goal.overflow_add-result
overflow_add-result c =
    let few : c.fewest_of.result ≡ fewest furthest c.args.tops c.args.m = rw c.from.ensures at c.fewest_of.ensures in
    omega (arith, few, fewest-most furthest c.args.tops c.args.m)

pub returns : goal.returns
returns c =
    let few : c.fewest_of.result ≡ fewest furthest c.args.tops c.args.m = rw c.from.ensures at c.fewest_of.ensures in
    rw (few, c.from-2.ensures) (tested _ _ _ _)

-- `integer_writers::writer::put_fewest` meets its contract: without room, or written.
-- Assumes nothing.
use Prim.Native.Nat.{◌+◌}
use mathlib.Core.Path.{◌≡◌, refl, sym, ap, ◌∙◌}
use native.Mathlib.Omega.{arith}
use lib.ListN.{length}
use Rattle.paper.specs.Refusals.{none}
use Rattle.slices.proofs.Laws.{writes_bytes, writes-none}
use Rattle.integers.specs.Integer.{fewest, furthest, written}
use Rattle.integers.proofs.Laws.{length-formed}
use Rattle.integer_writers.proofs.writer.put_fewest.Goals as goal

pub put-requires : goal.put-requires
put-requires c =
    let a = c.args in
    let few : c.fewest_of-c.result ≡ fewest furthest a.t a.m = rw c.from.ensures at c.fewest_of-c.ensures in
    rw few (c.requires.0, c.requires.1, c.requires.2, omega (arith, few))

pub returns-then-out-c : goal.returns-then-out-c
returns-then-out-c c =
    let a = c.args in
    let few : c.fewest_of-c.result ≡ fewest furthest a.t a.m = rw c.from.ensures at c.fewest_of-c.ensures in
    let long : length (written a.t a.q a.s a.m) ≡ c.fewest_of-c.result + 1 = rw few (length-formed a.t a.q _ a.s a.m) in
    writes-none _ _ _ _ (omega (arith, long)) c.refused.ensures refl

pub returns : goal.returns
returns c =
    let a = c.args in
    let few : c.fewest_of-c.result ≡ fewest furthest a.t a.m = rw c.from.ensures at c.fewest_of-c.ensures in
    let long : length (written a.t a.q a.s a.m) ≡ c.fewest_of-c.result + 1 = rw few (length-formed a.t a.q _ a.s a.m) in
    writes_bytes _ _ _ _ (omega (arith, long)) (c.done.ensures ∙ ap (λ n. record { refusal = none; bytes = n }) (sym long)) (rw few at c.put.ensures)

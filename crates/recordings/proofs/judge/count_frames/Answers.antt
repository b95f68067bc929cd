-- `recordings::judge::count_frames` meets its contract. The loop keeps: the frames counted and those still to come are all of them.
-- Assumes nothing.
use Prim.Native.Nat.{ℕ, ◌<◌}
use mathlib.Core.Path.{◌≡◌, sym, ◌∙◌}
use mathlib.Core.Bool.{false}
use native.Mathlib.Omega.{arith}
use borrow.Author.Tests.{eqb-true, eqb-false}
use lib.Dec.{eqb}
use Rattle.std.proofs.lemmas.Result.{err_from_is_err_and}
use Rattle.recordings.proofs.Judged.{count-more, count-stop, tally-end}
use Rattle.recordings.proofs.judge.count_frames.Goals as goal

-- what is not empty has bytes
some : (n : ℕ) → false ≡ eqb n 0 → 0 < n
some n e = omega (arith, eqb-false n 0 (sym e))

pub returns-in_err-left : goal.returns-in_err-left
returns-in_err-left c =
    let b = count-stop c.loop-left.frames c.loop-left.left.now _ (some _ c.loop-left-test.ensures) (sym c.in_err-left.ensures) in
    let p = err_from_is_err_and c.from_residual.result c.from_residual.ensures.1 in
    rw (p.1, p.2) (sym b ∙ c.loop-left.invariant.1)

pub loop-left-smaller : goal.loop-left-smaller
loop-left-smaller c = (count-more c.loop-left.frames c.loop-left.left.now _ (some _ c.loop-left-test.ensures) (sym c.in_ok-left.ensures)).0

pub loop-left-preserved : goal.loop-left-preserved
loop-left-preserved c =
    let m = count-more c.loop-left.frames c.loop-left.left.now _ (some _ c.loop-left-test.ensures) (sym c.in_ok-left.ensures) in
    (omega (arith, m.0, c.loop-left.invariant.0), sym m.1 ∙ c.loop-left.invariant.1)

pub returns : goal.returns
returns c =
    let none = eqb-true _ _ (sym c.loop-left-test.ensures) in
    sym (tally-end c.loop-left.frames c.loop-left.left.now (omega (arith, none))) ∙ c.loop-left.invariant.1

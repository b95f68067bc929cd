-- `contacts::judging::settle` meets its contract: each test decides one case.
-- Assumes nothing.
use Prim.Native.Nat.{◌+◌, ◌<◌}
use native.Mathlib.Omega.{arith}
use borrow.Author.Tests.{le-leb, lt-leb}
use Rattle.contacts.specs.Ruling.{judged_on}
use Rattle.contacts.proofs.judging.settle.Goals as goal

pub returns-in_err-found : goal.returns-in_err-found
unfolding judged_on
returns-in_err-found c = rw c.in_err-found.was c.from_residual.ensures

pub returns-in_err-after : goal.returns-in_err-after
unfolding judged_on
returns-in_err-after c =
    let l : c.args.active + c.in_ok-found.found.came < c.in_ok-found.found.gone = omega (arith, c.in_err-after.ensures) in
    rw (c.in_ok-found.was, lt-leb _ _ l) c.from_residual-in_err-after.ensures

pub returns-then-after-most : goal.returns-then-after-most
unfolding judged_on
returns-then-after-most c = rw (c.in_ok-found.was, le-leb _ _ c.in_ok-after.ensures.0, ← c.in_ok-after.ensures.1, le-leb _ _ c.if-after-most.true)

pub returns : goal.returns
unfolding judged_on
returns c = rw (c.in_ok-found.was, le-leb _ _ c.in_ok-after.ensures.0, ← c.in_ok-after.ensures.1, lt-leb _ _ c.if-after-most.false)

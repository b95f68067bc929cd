-- `reading::passes::count_records` meets its contract. The loop keeps: what is counted and what is to come are the whole; and a bound, since no
-- frame has more than 65,535 contacts.
-- Assumes nothing.
use native.Mathlib.Omega.{arith}
use Rattle.reading.proofs.Counting.{counting-first, counting-next, counting-none, counting-done}
use Rattle.reading.proofs.passes.count_records.Goals as goal

pub loop-init : goal.loop-init
loop-init c = (omega arith, λ fs t e. counting-first fs t _ _ _ (omega arith) e)

pub returns-in_default : goal.returns-in_default
returns-in_default c =
    record { same = λ fs t e. counting-none fs t _ _ _ (c.loop.invariant.1 fs t e) (omega arith) c.in_default.ensures.value; most = omega (arith, c.loop.invariant.0) }

pub loop-preserved : goal.loop-preserved
loop-preserved c =
    (omega (arith, c.loop.invariant.0), λ fs t e. counting-next fs t _ _ _ (c.loop.invariant.1 fs t e) c.in-Some.head c.in-Some.field-0-1 c.in-Some.behind _ (omega arith) c.in-Some.ensures.value)

pub returns : goal.returns
returns c = record { same = λ fs t e. counting-done fs t _ _ _ (c.loop.invariant.1 fs t e) (omega arith); most = omega (arith, c.loop.invariant.0) }

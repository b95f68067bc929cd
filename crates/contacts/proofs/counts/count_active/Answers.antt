-- The loop keeps: what is counted, and the active ones that are left, are all.
use Prim.Native.Nat.{◌+◌}
use mathlib.Core.Path.{◌≡◌}
use native.Mathlib.Numerals.{add-one}
use native.Mathlib.Omega.{arith}
use lib.ListN.{drop, get_or, drop_of_length-le}
use lib.Seq.{drop-cons}
use Rattle.machine.specs.Table.{count_active, one, active}
use Rattle.contacts.proofs.counts.count_active.Goals as goal

pub loop-state-preserved : goal.loop-state-preserved
unfolding count_active
loop-state-preserved c =
    let ss = c.args.states.now in
    let i = c.loop-state.state-index in
    let s : count_active (drop i ss) ≡ one (active (get_or ss i 0)) + count_active (drop (i + 1) ss) = rw (drop-cons ss i 0 (omega arith), add-one i) in
    (omega arith, omega arith)

pub returns : goal.returns
unfolding count_active
returns c =
    let e = rw (drop_of_length-le c.args.states.now {i = c.loop-state.state-index} (omega arith)) at c.loop-state.invariant.1 in
    (record { all = omega arith; same = omega (arith, e) }, omega arith)

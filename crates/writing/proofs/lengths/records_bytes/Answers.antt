-- `writing::lengths::records_bytes` meets its contract. The loop keeps: the total and what the records that are left take is what all of them take.
-- Assumes nothing.
use Prim.Native.Nat.{ℕ, ◌+◌, ◌-◌}
use mathlib.Core.Path.{◌≡◌, ap}
use mathlib.Core.List.{List}
use native.Mathlib.Omega.{arith}
use lib.ListN.{length, drop, length-append}
use Rattle.formats.proofs.Steps.{tail}
use Rattle.house.specs.Layout.{record_of}
use Rattle.spelling.specs.Spelling.{spelling}
use Rattle.writing.specs.Spelling.{spelt}
use Rattle.writing.proofs.Measured.{spelt-most}
use Rattle.writing.proofs.Spelt.{spelt-none, Next, next}
use Rattle.writing.proofs.lengths.records_bytes.Goals as goal
use Rattle.writing.proofs.lengths.records_bytes.Goals.{In-loop}

-- one record more
counted : (total n all k j : ℕ) (l : List ℕ) → total + length (spelt k l) ≡ all → n ≡ length (spelling (record_of l)) → Next k j l → total + n + length (spelt j (drop 21 l)) ≡ all
counted total n all k j l h e x = omega (arith, h, e, ap length x.same, length-append (spelling (record_of l)) (spelt j (drop 21 l)))

here : (c : In-loop) → Next (c.args.count - c.loop.counter) (c.args.count - (c.loop.counter + 1)) c.loop.left.now
here c = next _ _ _ (omega arith) c.loop.invariant.1

pub overflow_add-total : goal.overflow_add-total
overflow_add-total c =
    let x = here (goal.at.overflow_add-total c).In-loop in
    omega (arith, counted _ _ _ _ _ _ c.loop.invariant.0 c.record_bytes-total.ensures x, spelt-most c.args.count c.args.records.now, c.requires.1)

pub slice_bounds-left-count : goal.slice_bounds-left-count
slice_bounds-left-count c = (here (goal.at.slice_bounds-left-count c).In-loop).inside

pub slice_bounds-left-start : goal.slice_bounds-left-start
slice_bounds-left-start c = (here (goal.at.slice_bounds-left-start c).In-loop).inside

pub loop-preserved : goal.loop-preserved
loop-preserved c =
    let x = here (goal.at.loop-preserved c).In-loop in
    rw (tail c.loop.left.now 21) (counted _ _ _ _ _ _ c.loop.invariant.0 c.record_bytes-total.ensures x, x.others)

pub returns : goal.returns
returns c = omega (arith, c.loop.invariant.0, ap length (spelt-none (c.args.count - c.loop.counter) c.loop.left.now (omega arith)))

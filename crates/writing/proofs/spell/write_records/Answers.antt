-- `writing::spell::write_records` meets its contract. The loop keeps: what is left of the records is what is still to be written.
-- Assumes nothing.
use Prim.Native.Nat.{◌+◌, ◌-◌}
use mathlib.Core.List.{◌++◌}
use native.Mathlib.Omega.{arith}
use lib.ListN.{drop}
use Rattle.formats.proofs.Steps.{tail}
use Rattle.house.specs.Layout.{record_of}
use Rattle.spelling.specs.Spelling.{spelling}
use Rattle.writing.specs.Spelling.{spelt}
use Rattle.writing.proofs.Putting.{Partly, partly-room, partly_more, partly-all}
use Rattle.writing.proofs.Spelt.{spelt-none, Next, next}
use Rattle.writing.proofs.spell.write_records.Goals as goal
use Rattle.writing.proofs.spell.write_records.Goals.{In-loop}

here : (c : In-loop) → Next (c.args.count - c.loop.counter) (c.args.count - (c.loop.counter + 1)) c.loop.left.now
here c = next _ _ _ (omega arith) c.loop.invariant.1

-- this record, and those behind it
togo : (c : In-loop) → let l = c.loop.left.now in
    Partly (spelt c.args.count c.args.records.now) (spelling (record_of l) ++ spelt (c.args.count - (c.loop.counter + 1)) (drop 21 l)) c.args.out.now c.loop.out c.loop.at
togo c = rw (here c).same at c.loop.invariant.0

pub write_record-at-requires : goal.write_record-at-requires
write_record-at-requires c =
    let s = (goal.at.write_record-at-requires c).In-loop in
    ((here s).now, (partly-room _ _ (togo s)).next)

pub slice_bounds-left-count : goal.slice_bounds-left-count
slice_bounds-left-count c = (here (goal.at.slice_bounds-left-count c).In-loop).inside

pub slice_bounds-left-start : goal.slice_bounds-left-start
slice_bounds-left-start c = (here (goal.at.slice_bounds-left-start c).In-loop).inside

pub loop-preserved : goal.loop-preserved
loop-preserved c =
    let s = (goal.at.loop-preserved c).In-loop in
    rw (tail c.loop.left.now 21) (partly_more _ _ (togo s) c.write_record-at.ensures, (here s).others)

pub returns : goal.returns
returns c = partly-all (rw (spelt-none (c.args.count - c.loop.counter) c.loop.left.now (omega arith)) at c.loop.invariant.0)

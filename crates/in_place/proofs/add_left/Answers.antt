-- `in_place::add_left` meets its contract: four numbers, and the line's end.
-- Assumes nothing.
use Rattle.lines.proofs.Adding.{added_then}
use Rattle.in_place.proofs.add_left.Goals as goal

pub returns : goal.returns
returns c =
    let last = added_then c.add_field-ignoring.ensures (added_then c.add_field-counted.ensures c.add_byte.ensures) in
    added_then c.add_field-ready.ensures (added_then c.add_field-begun.ensures last)

-- `lines::add_hexes` meets its contract. The invariant: the bytes before the place are added.
-- Assumes nothing.
use native.Mathlib.Numerals.{add-one}
use Rattle.lines.specs.Page.{hexes}
use Rattle.lines.proofs.Adding.{added_none, added_then}
use Rattle.lines.proofs.Hexes.{hexes-next}
use Rattle.lines.proofs.add_hexes.Goals as goal

pub loop-byte-init : goal.loop-byte-init
unfolding hexes
loop-byte-init c = added_none _ _

pub loop-byte-preserved : goal.loop-byte-preserved
loop-byte-preserved c =
    rw (add-one, hexes-next _ _ c.loop-byte-test.true) (added_then c.loop-byte.invariant c.add_hex-at.ensures)

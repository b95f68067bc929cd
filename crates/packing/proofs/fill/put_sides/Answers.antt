-- `packing::fill::put_sides` meets its contract: four sides, one after the other.
-- Assumes nothing.
use mir.Syntax.{w16}
use mir.ValLaws.{to_z-of_z}
use Rattle.packing.proofs.Filling.{puts_then, puts-same}
use Rattle.packing.proofs.fill.put_sides.Goals as goal

pub returns : goal.returns
returns c =
    let s = c.args.sides in
    puts_then
    (puts_then
    (puts_then
    (puts-same 15 (to_z-of_z w16 s.left (record { sfits = c.struct_told-1.given.0.1 })) c.put_side.ensures)
    (puts-same 15 (to_z-of_z w16 s.top (record { sfits = c.struct_told-2-1.given.1.0.1 })) c.put_side-2.ensures))
    (puts-same 15 (to_z-of_z w16 s.right (record { sfits = c.struct_told-3-1.given.1.1.0.1 })) c.put_side-3.ensures))
    (puts-same 15 (to_z-of_z w16 s.bottom (record { sfits = c.struct_told-4-1.given.1.1.1.0.1 })) c.put_side-4.ensures)

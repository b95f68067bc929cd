-- `packing::fill::put_point` meets its contract: x and then y.
-- Assumes nothing.
use Rattle.packing.proofs.Filling.{puts_then, puts-same}
use mir.Syntax.{w32}
use mir.ValLaws.{to_z-of_z}
use Rattle.packing.proofs.fill.put_point.Goals as goal

pub returns : goal.returns
returns c =
    puts_then
    (puts-same 30 (to_z-of_z w32 c.args.point.x (record { sfits = c.struct_told-1.given.0.1 })) c.put_signed.ensures)
    (puts-same 30 (to_z-of_z w32 c.args.point.y (record { sfits = c.struct_told-2-1.given.1.0.1 })) c.put_signed-2.ensures)

-- `moves::records::stored_contact` meets its contract: each coordinate fits, so it is the stored one.
-- Assumes nothing.
use lib.IntN.{pos}
use lib.ListN.{get_or}
use native.Mathlib.Omega.{arith}
use mir.Syntax.{w32}
use mir.Facts.{to_z-of_z}
use Rattle.machine.specs.Table.{place_at}
use Rattle.moves.proofs.records.stored_contact.Goals as goal

pub returns : goal.returns
unfolding place_at
returns c =
    let a = c.args in
    let x = to_z-of_z {w = w32} {z = get_or a.xs.now a.id (pos 0)} (record { sfits = omega arith }) in
    let y = to_z-of_z {w = w32} {z = get_or a.ys.now a.id (pos 0)} (record { sfits = omega arith }) in
    rw (x, y)

-- `moves::table::store` meets its contract: each number fits, so what is stored is what was given.
-- Assumes nothing.
use native.Mathlib.Omega.{arith}
use mir.Syntax.{w32}
use mir.Facts.{to_z-of_z}
use Rattle.machine.specs.Table.{with_contact}
use Rattle.moves.proofs.table.store.Goals as goal

pub returns : goal.returns
unfolding with_contact
returns c =
    let a = c.args in
    let x = to_z-of_z {w = w32} {z = a.place.x} (record { sfits = omega arith }) in
    let y = to_z-of_z {w = w32} {z = a.place.y} (record { sfits = omega arith }) in
    rw (x, y)

-- x is compared, and then y, each by its bits.
use mathlib.Core.Path.{◌≡◌, sym, ◌∙◌}
use mathlib.Core.Bool.{true, false}
use native.Mathlib.Omega.{arith}
use borrow.Author.Tests.{eq-eqb, ne_eqb}
use lib.IntN.{pos}
use lib.ListN.{get_or}
use Rattle.machine.specs.Table.{place_at}
use Rattle.tables.specs.Same.{same_number}
use Rattle.contacts.proofs.Signed.{same_bits}
use Rattle.contacts.proofs.rules.is_stored.Goals as goal

pub returns-then-place-xs : goal.returns-then-place-xs
unfolding place_at
returns-then-place-xs c =
    let a = c.args in
    let x = same_bits a.place.x (get_or a.xs.now a.id (pos 0)) (record { sfits = omega arith }) (record { sfits = omega arith }) in
    let y = same_bits a.place.y (get_or a.ys.now a.id (pos 0)) (record { sfits = omega arith }) (record { sfits = omega arith }) in
    let e : same_number a.place.x (get_or a.xs.now a.id (pos 0)) ≡ true = sym x ∙ eq-eqb _ _ c.if-place-xs.true in
    y ∙ rw e

pub returns-else-place-xs : goal.returns-else-place-xs
unfolding place_at
returns-else-place-xs c =
    let a = c.args in
    let x = same_bits a.place.x (get_or a.xs.now a.id (pos 0)) (record { sfits = omega arith }) (record { sfits = omega arith }) in
    let e : same_number a.place.x (get_or a.xs.now a.id (pos 0)) ≡ false = sym x ∙ ne_eqb _ _ c.if-place-xs.false in
    x ∙ (e ∙ rw e)

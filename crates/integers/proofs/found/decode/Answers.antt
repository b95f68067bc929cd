-- `integers::found::decode` meets its contract: each return is a case of `decoded`.
-- Assumes nothing.
use Prim.Native.Nat.{◌<◌}
use mathlib.Core.Path.{sym}
use native.Mathlib.Nat.{mod-lt, add-sub_cancel}
use native.Mathlib.Omega.{arith}
use lib.ListN.{length, get_or, length-take}
use Rattle.std.proofs.lemmas.Option.{get_or_from_slice_get}
use Rattle.integers.specs.Integer.{count_of}
use Rattle.integers.proofs.ByteOne.{count_small}
use Rattle.integers.proofs.Laws.{decoded-short, decoded-whole}
use Rattle.integers.proofs.found.decode.Goals as goal

pub returns-in_default : goal.returns-in_default
returns-in_default c =
    let a = c.args in
    sym (decoded-short a.tops a.signs a.rest.now (omega (arith, c.in_default.ensures.item)))

pub returns-then-rest-c : goal.returns-then-rest-c
returns-then-rest-c c =
    let a = c.args in
    let b = get_or_from_slice_get a.rest.now 0 c.in-Some.field-0.now 0 (sym c.in-Some.ensures.value) in
    sym (decoded-short a.tops a.signs a.rest.now (rw (b, ← c.from-c.ensures) c.if-rest-c.true))

pub join-size-requires : goal.join-size-requires
join-size-requires c =
    let a = c.args in
    let b = get_or_from_slice_get a.rest.now 0 c.in-Some.field-0.now 0 (sym c.in-Some.ensures.value) in
    let byte : c.in-Some.field-0.now < 256 = rw b at (c.type_inv.rest 0).fits in
    simp length-take
    (omega (arith, c.from.ensures, c.from-c.ensures, mod-lt c.in-Some.field-0.now c.requires.0, count_small a.tops a.signs c.in-Some.field-0.now byte c.requires.3))

pub returns : goal.returns
returns c =
    let a = c.args in
    let b = get_or_from_slice_get a.rest.now 0 c.in-Some.field-0.now 0 (sym c.in-Some.ensures.value) in
    let inside : count_of a.tops a.signs (get_or a.rest.now 0 0) < length a.rest.now = rw (b, ← c.from-c.ensures) c.if-rest-c.false in
    rw (c.join-size.ensures, c.from.ensures, c.from-c.ensures, add-sub_cancel, ← b) (sym (decoded-whole a.tops a.signs a.rest.now inside))

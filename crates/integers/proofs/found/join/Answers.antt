-- `integers::found::join` meets its contract: v is head and the bytes passed.
-- Assumes nothing.
use Prim.Native.Nat.{◌*◌, ◌^◌, ◌<◌}
use mathlib.Core.Path.{refl}
use native.Mathlib.Numerals.{add-one}
use native.Mathlib.Omega.{arith}
use lib.Seq.{take-suc}
use lib.ListN.{length, take, length-take}
use Rattle.digits.specs.Digits.{joined, Bytes}
use Rattle.digits.proofs.Laws.{bytes_take, joined_small, joined_snoc}
use Rattle.integers.proofs.found.join.Goals as goal

pub loop-b-init : goal.loop-b-init
unfolding joined
loop-b-init c = refl

pub overflow_mul-v : goal.overflow_mul-v
overflow_mul-v c =
    let small : c.loop-b.v < 128 * 256 ^ 6 =
    let a = c.args in
    let i = c.loop-b.b-index in
    let h : Bytes a.bytes.now = λ j. (c.type_inv.bytes j).fits in
    rw c.loop-b.invariant
    (joined_small 128 a.head 6 (take i a.bytes.now) (bytes_take i _ h) (omega arith)
    (simp length-take (omega arith))) in
    omega (arith, small)

pub overflow_add-v : goal.overflow_add-v
overflow_add-v c =
    let small : c.loop-b.v < 128 * 256 ^ 6 =
    let a = c.args in
    let i = c.loop-b.b-index in
    let h : Bytes a.bytes.now = λ j. (c.type_inv.bytes j).fits in
    rw c.loop-b.invariant
    (joined_small 128 a.head 6 (take i a.bytes.now) (bytes_take i _ h) (omega arith)
    (simp length-take (omega arith))) in
    omega (arith, small, c.type_inv.bytes c.loop-b.b-index, c.from.ensures)

pub loop-b-preserved : goal.loop-b-preserved
loop-b-preserved c =
    let i = c.loop-b.b-index in
    let bytes = c.args.bytes.now in
    let inside : i < length bytes = omega arith in
    rw (add-one, take-suc bytes i 0 inside, joined_snoc) (omega (arith, c.from.ensures))

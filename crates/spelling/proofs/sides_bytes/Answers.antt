-- `spelling::sides_bytes` meets its contract: the bytes of the four sides, or none.
-- Assumes nothing.
use Prim.Native.Nat.{ℕ}
use mathlib.Core.Path.{◌≡◌}
use native.Mathlib.Omega.{arith}
use mir.Syntax.{w16}
use mir.Val.{SFits, to_z, of_z}
use mir.Facts.{to_z-of_z}
use lib.IntN.{ℤ}
use lib.ListN.{length}
use Rattle.fields.specs.Integers.{taken}
use Rattle.spelling.proofs.Measured.{s2-most, sides-sized}
use borrow.Author.Rules.{rules}
use Rattle.spelling.proofs.sides_bytes.Goals as goal

-- a side's bytes, as they were counted
side : (z : ℤ) (n : ℕ) → SFits w16 z → n ≡ length (taken.s2.write (to_z w16 (of_z w16 z))) → n ≡ length (taken.s2.write z)
side z n f h = rw (to_z-of_z f) at h

pub overflow_add-high : goal.overflow_add-high
overflow_add-high c =
    let s = c.args.four in
    omega (arith, side s.left _ (search rules) c.bytes.ensures, side s.top _ (search rules) c.bytes-then-there.ensures, s2-most s.left, s2-most s.top)

pub overflow_add-result : goal.overflow_add-result
overflow_add-result c =
    let s = c.args.four in
    let left = side s.left _ (search rules) c.bytes.ensures in
    let top = side s.top _ (search rules) c.bytes-then-there.ensures in
    let right = side s.right _ (search rules) c.bytes-then-there-2.ensures in
    omega (arith, left, top, right, (sides-sized s).bound)

pub overflow_add-result-then-there : goal.overflow_add-result-then-there
overflow_add-result-then-there c =
    let s = c.args.four in
    let left = side s.left _ (search rules) c.bytes.ensures in
    let top = side s.top _ (search rules) c.bytes-then-there.ensures in
    let right = side s.right _ (search rules) c.bytes-then-there-2.ensures in
    let bottom = side s.bottom _ (search rules) c.bytes-then-there-3.ensures in
    omega (arith, left, top, right, bottom, (sides-sized s).bound)

pub returns-then-there : goal.returns-then-there
returns-then-there c =
    let s = c.args.four in
    let left = side s.left _ (search rules) c.bytes.ensures in
    let top = side s.top _ (search rules) c.bytes-then-there.ensures in
    let right = side s.right _ (search rules) c.bytes-then-there-2.ensures in
    let bottom = side s.bottom _ (search rules) c.bytes-then-there-3.ensures in
    rw c.if-there.true (omega (arith, left, top, right, bottom, (sides-sized s).sum))

-- `spelling::point_bytes` meets its contract: x's bytes and y's.
-- Assumes nothing.
use Prim.Native.Nat.{ℕ}
use mathlib.Core.Path.{◌≡◌}
use native.Mathlib.Omega.{arith}
use mir.Syntax.{w32}
use mir.Val.{SFits, to_z, of_z}
use mir.Facts.{to_z-of_z}
use lib.IntN.{ℤ}
use lib.ListN.{length}
use Rattle.fields.specs.Integers.{taken}
use Rattle.spelling.proofs.Measured.{point-sized}
use borrow.Author.Rules.{rules}
use Rattle.spelling.proofs.point_bytes.Goals as goal

-- a coordinate's bytes, as they were counted
one : (z : ℤ) (n : ℕ) → SFits w32 z → n ≡ length (taken.s4.write (to_z w32 (of_z w32 z))) → n ≡ length (taken.s4.write z)
one z n f h = rw (to_z-of_z f) at h

pub overflow_add-result : goal.overflow_add-result
overflow_add-result c =
    let p = c.args.place in
    omega (arith, one p.x _ (search rules) c.bytes.ensures, one p.y _ (search rules) c.bytes-2.ensures, (point-sized p).bound)

pub returns : goal.returns
returns c =
    let p = c.args.place in
    omega (arith, one p.x _ (search rules) c.bytes.ensures, one p.y _ (search rules) c.bytes-2.ensures, (point-sized p).sum)
